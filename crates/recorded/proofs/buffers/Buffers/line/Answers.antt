use Rattle.std.proofs.Common.{◌≡◌, List, ℕ, Option, inl, inr, sym, ap, ◌∙◌, subst, Some}
use Rattle.std.proofs.lemmas.Result.{err_from_is_err_and}
use Rattle.recorded.specs.declared.unread.Unread.TheVariants.{UnknownKind}
use Rattle.recorded.specs.Lines.{left, Cuts}
use Rattle.recorded.specs.Rooms.{room}
use Rattle.recorded.specs.Kinds.{word_of}
use Rattle.recorded.specs.Grammar.{Spells, LineSpells, fields_of, shapes}
use Rattle.recorded.proofs.Same.{fields_fit}
use Rattle.recorded.proofs.Settled.{line_same, refuses, word_from, none_from}
use Rattle.recorded.proofs.buffers.Buffers.line.Goals as goal

pub returns-in_err-kind : goal.returns-in_err-kind
returns-in_err-kind c =
    let r = c.from_residual-in_err-kind in
    let p = err_from_is_err_and r.result r.ensures.1 in
    let w = c.in_ok-word.field-0.now in
    let cut = subst (λ (b : Option (List ℕ)). Cuts b w (left c.word.new.self)) c.new-words.ensures c.in_ok-word.ensures in
    let none = none_from c.of_word.result w c.of_word.ensures c.in_err-kind.ensures.variant in
    let value = rw none.0 at c.in_err-kind.ensures.value in
    let e : c.in_err-kind.field-0.0 ≡ UnknownKind = cc in
    refuses _ _ (room c.args.self.now) c.args.line.now _ r.result p (w, left c.word.new.self, cut, inl (e, none.1))

pub returns-in_err-question : goal.returns-in_err-question
returns-in_err-question c =
    let r = c.from_residual-in_err-question in
    let p = err_from_is_err_and r.result r.ensures.1 in
    let w = c.in_ok-word.field-0.now in
    let cut = subst (λ (b : Option (List ℕ)). Cuts b w (left c.word.new.self)) c.new-words.ensures c.in_ok-word.ensures in
    let word = word_from c.of_word.result w c.in_ok-kind.kind c.of_word.ensures c.in_ok-kind.ensures.ok_part in
    refuses _ _ (room c.args.self.now) c.args.line.now _ r.result p (w, left c.word.new.self, cut, inr (c.in_ok-kind.kind, word, inl (left c.question.new.words, c.in_err-question.ensures)))

pub returns-in_err-answer : goal.returns-in_err-answer
returns-in_err-answer c =
    let r = c.from_residual-in_err-answer in
    let p = err_from_is_err_and r.result r.ensures.1 in
    let w = c.in_ok-word.field-0.now in
    let cut = subst (λ (b : Option (List ℕ)). Cuts b w (left c.word.new.self)) c.new-words.ensures c.in_ok-word.ensures in
    let word = word_from c.of_word.result w c.in_ok-kind.kind c.of_word.ensures c.in_ok-kind.ensures.ok_part in
    let q = c.in_ok-question.question in
    let h = c.in_ok-question.ensures in
    let e = c.in_err-answer.ensures in
    let spells = subst (λ (b : Option (List ℕ)). Spells (left c.word.new.self) (fields_of q) b) e.1 h.1 in
    refuses _ _ (room c.args.self.now) c.args.line.now _ r.result p (w, left c.word.new.self, cut, inr (c.in_ok-kind.kind, word, inr (e.0, (fields_of q, fields_fit q ∙ ap shapes h.0, spells))))

pub returns : goal.returns
returns c =
    let w = c.in_ok-word.field-0.now in
    let line = c.args.line.now in
    let cut = subst (λ (b : Option (List ℕ)). Cuts b w (left c.word.new.self)) c.new-words.ensures c.in_ok-word.ensures in
    let word = word_from c.of_word.result w c.in_ok-kind.kind c.of_word.ensures c.in_ok-kind.ensures.ok_part in
    let q = c.in_ok-question.question in
    let answer = c.in_ok-answer.answer.now in
    let h = c.in_ok-question.ensures in
    let spells = subst (λ (b : Option (List ℕ)). Spells (left c.word.new.self) (fields_of q) b) c.in_ok-answer.ensures h.1 in
    let read : LineSpells line q answer = (left c.word.new.self, subst (λ (v : List ℕ). Cuts (Some line) v (left c.word.new.self)) (word ∙ ap word_of (sym h.0)) cut, spells) in
    ((h.0, read), (tt, λ p other k. let same = line_same line q p answer other read k in (sym h.0 ∙ same.0, same.1, same.2)))
