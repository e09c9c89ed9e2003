-- What a line spells is not refused, but for want of room.
use Rattle.std.proofs.Common.{◌≡◌, ◌≢◌, ℕ, ◌≤◌, Result, Err, IfOk, IfErr, MatchResult, MatchOption, false, is_some, List, [], ◌∷◌, length, length-append, map, Some, None, Option, refl, ⊎_elim, arith, sym, ap, ◌∙◌, subst}
use Rattle.recorded.specs.declared.buffers.Case.{Case}
use Rattle.recorded.specs.declared.unread.Unread.{Unread}
use Rattle.recorded.specs.declared.unread.Unread.TheVariants.{OutOfMemory}
use Rattle.recorded.specs.declared.question.Kind.{Kind}
use Rattle.recorded.specs.declared.question.Question.{Question}
use Rattle.recorded.specs.Kinds.{word_of, kind_of}
use Rattle.recorded.specs.Lines.{CutFrom, Cuts}
use Rattle.recorded.specs.Grammar.{Field, Shape, shape_of, Spelled, fields_of, shapes, Next, Spells, LineSpells}
use Rattle.recorded.specs.Refused.{Misspelled, Wrong, Refused, LineRefused}
use Rattle.recorded.proofs.Same.{cuts_same, next_same, spells_same, word_same, fields_fit}

abbrev long : Option (List ℕ) → ℕ
long None = 0
long (Some line) = length line

cut_length : (line word : List ℕ) (after : Option (List ℕ)) → CutFrom line word after → (length word ≤ length line) × (long after ≤ length line)
cut_length line word None c = let e = ap length c in (omega (arith, e), omega (arith, e))
cut_length line word (Some rest) c = let e = ap length c ∙ length-append word (32 ∷ rest) in (omega (arith, e), omega (arith, e))

shorter : (before after : Option (List ℕ)) (word : List ℕ) → Cuts before word after → (length word ≤ long before) × (long after ≤ long before)
shorter before after word c = let l = cut_length c.line word after c.cut in subst (λ (b : Option (List ℕ)). (length word ≤ long b) × (long after ≤ long b)) (sym c.was) l

not_misspelled : (room : ℕ) (word : List ℕ) (f : Field) (e : Unread) → Spelled word f → Misspelled room word (shape_of f) e → (e ≡ OutOfMemory) × (room ≤ length word)
not_misspelled room word f e s m = ⊎_elim (λ k. absurd (k.1 f refl s)) (λ k. k) m

not_wrong : (room : ℕ) (before mid after : Option (List ℕ)) (f : Field) (e : Unread) → Next before f mid → Wrong room before (shape_of f) e after → (e ≡ OutOfMemory) × (room ≤ long before)
not_wrong room before mid after f e n w =
    let was = n.cut.was in
    ⊎_elim
    (λ k. let none = k.1 in cc)
    (λ k.
    let same = cuts_same before mid after n.word k.0 n.cut k.1 in
    let m = not_misspelled room k.0 f e (subst (λ (v : List ℕ). Spelled v f) same.0 n.spelled) k.2 in
    let short = (shorter before after k.0 k.1).0 in
    let r = m.1 in
    (m.0, omega (arith, r, short)))
    w

not_refused : (room : ℕ) (before after stop : Option (List ℕ)) (fs : List Field) (e : Unread) → Spells before fs after → Refused room before (map shape_of fs) e stop → (e ≡ OutOfMemory) × (room ≤ long before)
not_refused room before after stop [] e s r = absurd r
not_refused room before after stop (f ∷ fs) e s r =
    ⊎_elim
    (λ w. not_wrong room before s.0 stop f e s.1 w)
    (λ k.
    let same = next_same before k.1 s.0 k.0 f k.2 k.3 s.1 in
    let rest = not_refused room s.0 after stop fs e s.2 (subst (λ (m : Option (List ℕ)). Refused room m (map shape_of fs) e stop) same.1 k.4) in
    let short = (shorter before s.0 s.1.word s.1.cut).1 in
    let l = rest.1 in
    (rest.0, omega (arith, l, short)))
    r

abbrev Stops : (room : ℕ) (line : List ℕ) → Unread → Type 0
Stops room line e = (e ≡ OutOfMemory) × (room ≤ length line)

-- a line that spells a question is refused only where there is no room for it
pub only_memory : (room : ℕ) (line : List ℕ) (e : Unread) (q : Question) (answer : List ℕ) → LineRefused room line e → LineSpells line q answer → (e ≡ OutOfMemory) × (room ≤ length line)
only_memory room line e q answer r s =
    let cut = cuts_same (Some line) r.1 s.0 r.0 (word_of (kind_of q)) r.2 s.1 in
    ⊎_elim
    (λ k. absurd (k.1 (kind_of q) cut.0))
    (λ k.
    let kind = word_same k.0 (kind_of q) (sym k.1 ∙ cut.0) in
    let fit = fields_fit q ∙ ap shapes (sym kind) in
    ⊎_elim
    (λ m.
    let here : Refused room s.0 (map shape_of (fields_of q)) e m.0 = subst (λ (b : Option (List ℕ)). Refused room b (map shape_of (fields_of q)) e m.0) cut.1 (subst (λ (ss : List Shape). Refused room r.1 ss e m.0) (sym fit) m.1) in
    let stop = not_refused room s.0 (Some answer) m.0 (fields_of q) e s.2 here in
    let short = (shorter (Some line) s.0 (word_of (kind_of q)) s.1).1 in
    let l = stop.1 in
    (stop.0, omega (arith, l, short)))
    (λ m.
    let same = spells_same s.0 None (Some answer) m.1.0 (fields_of q) (m.1.1 ∙ sym fit) (subst (λ (b : Option (List ℕ)). Spells b m.1.0 None) cut.1 m.1.2) s.2 in
    let no = same.1 in
    cc)
    k.2)
    r.3

-- a line spells one question, and one answer
pub line_same : (line : List ℕ) (q p : Question) (a b : List ℕ) → LineSpells line q a → LineSpells line p b → (kind_of q ≡ kind_of p) × (fields_of q ≡ fields_of p) × (a ≡ b)
line_same line q p a b h k =
    let cut = cuts_same (Some line) h.0 k.0 (word_of (kind_of q)) (word_of (kind_of p)) h.1 k.1 in
    let kind = word_same (kind_of q) (kind_of p) cut.0 in
    let same = spells_same k.0 (Some a) (Some b) (fields_of q) (fields_of p) (fields_fit q ∙ ap shapes kind ∙ sym (fields_fit p)) (subst (λ (m : Option (List ℕ)). Spells m (fields_of q) (Some a)) cut.1 h.2) k.2 in
    let e = same.1 in
    (kind, same.0, cc)

-- what is ensured of a refused line
pub refuses : (P : Case → Type 0) (Q : Question → List ℕ → Case → Type 0) (room : ℕ) (line : List ℕ) (e : Unread) (r : Result Case Unread) → (y : Unread) × (r ≡ Err y) × (y ≡ e) → LineRefused room line e
    → IfOk r P × (IfErr r (λ e. LineRefused room line e) × ((q : Question) (answer : List ℕ) → LineSpells line q answer → MatchResult r (Q q answer) (λ e. (e ≡ OutOfMemory) × (room ≤ length line))))
refuses P Q room line e r p h = rw (p.1, p.2) (tt, (h, λ q answer s. only_memory room line e q answer h s))

pub word_from : (o : Option Kind) (w : List ℕ) (k : Kind) → MatchOption o ((kind : Kind) → w ≢ word_of kind) (λ kind. w ≡ word_of kind) → o ≡ Some k → w ≡ word_of k
word_from None w k h e = cc
word_from (Some l) w k h e = let i : l ≡ k = cc in h ∙ ap word_of i

pub none_from : (o : Option Kind) (w : List ℕ) → MatchOption o ((kind : Kind) → w ≢ word_of kind) (λ kind. w ≡ word_of kind) → false ≡ is_some o → (o ≡ None) × ((kind : Kind) → w ≢ word_of kind)
none_from None w h e = (refl, h)
none_from (Some l) w h e = cc
