use Rattle.std.proofs.Common.{◌≡◌, ℕ, ◌+◌, ◌<◌, List, [], ◌∷◌, ◌++◌, map, length, take, get_or, set, sym, ap, ◌∙◌, arith, length-set}
use Rattle.std.proofs.lemmas.List.{take_more_set, map_more, drop-set-lt}
use Rattle.host.specs.declared.records.BindRecord.{BindRecord}
use Rattle.layout.specs.declared.record.ColumnRecord.{ColumnRecord}
use Rattle.layout.specs.Columns.{bind_of, no_record}
use Rattle.layout.specs.Tables.{items, count_of}
use Rattle.layout.proofs.Spans.{count_is}
use Rattle.layout.proofs.table.ColumnTable.write_binds.Goals as goal

told_more : (xs : List ColumnRecord) (bs : List BindRecord) (i : ℕ) (b : BindRecord) → i < length xs → i < length bs → b ≡ bind_of (get_or xs i no_record) → take i bs ≡ map bind_of (take i xs) → take (i + 1) (set bs i b) ≡ map bind_of (take (i + 1) xs)
told_more xs bs i b l m is told = take_more_set bs i b m ∙ ap (λ z. z ++ b ∷ []) told ∙ ap (λ z. map bind_of (take i xs) ++ z ∷ []) is ∙ sym (map_more bind_of xs i no_record l)

pub loop-i-preserved : goal.loop-i-preserved
loop-i-preserved c =
    let e = c.columns-column-items.ensures in let i = c.loop-i.i in let bs = c.loop-i.records in let inv = c.loop-i.invariant in
    let l : i < length (items c.args.self.now) = omega (arith, c.loop-i-test.true, ap length e) in
    record {
      long = length-set bs i _ ∙ inv.long;
      told = told_more (items c.args.self.now) bs i c.from.result l (omega (arith, l, inv.long, count_is c.args.self.now, c.args.self.now.few)) (c.from.ensures ∙ ap (λ z. bind_of (get_or z i no_record)) e) inv.told;
      rest = drop-set-lt (count_of c.args.self.now) bs i _ l ∙ inv.rest;
    }
