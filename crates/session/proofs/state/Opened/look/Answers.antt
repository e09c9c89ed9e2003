use Rattle.std.proofs.Common.{◌≡◌, ℕ, ◌+◌, ◌-◌, ◌<◌, ◌≤◌, false, take, drop, Some, Ok, Option, MatchOption, sym, ap, ◌∙◌, subst, arith, rules}
use Rattle.mysql.specs.declared.backend.MysqlType.{MysqlType}
use Rattle.mysql.specs.Types.{type_of}
use Rattle.layout.specs.declared.record.ColumnRecord.{ColumnRecord}
use Rattle.layout.specs.declared.table.ColumnTable.{ColumnTable}
use Rattle.layout.specs.Columns.{bytes_of, Fits}
use Rattle.layout.specs.Tables.{count_of, col}
use Rattle.session.proofs.Shows.{fault_at, kind_is, bytes_inside, reads_bytes}
use Rattle.session.proofs.state.Opened.look.Goals as goal

-- a record that was found in the table is the column's
found : (t : ColumnTable) (k : ℕ) (o : Option ColumnRecord) (c : ColumnRecord) → o ≡ Some c → MatchOption o (count_of t ≤ k) (λ x. (k < count_of t) × (x ≡ col t k)) → (k < count_of t) × (c ≡ col t k)
found t k o c e h = subst (λ (x : Option ColumnRecord). MatchOption x (count_of t ≤ k) (λ x. (k < count_of t) × (x ≡ col t k))) e h

-- its bytes lie inside the arena
read_inside : (t : ColumnTable) (k : ℕ) (c : ColumnRecord) → (k < count_of t) × (c ≡ col t k) → ((k : ℕ) → k < count_of t → Fits (col t k)) → c.is_null ≡ false → c.start + bytes_of c ≤ t.room
read_inside t k c is fit n = subst (λ (z : ColumnRecord). z.is_null ≡ false → z.start + bytes_of z ≤ t.room) (sym is.1) (bytes_inside t k is.0 (fit k is.0)) n

pub overflow_add-end : goal.overflow_add-end
overflow_add-end c =
    let o = c.args.self.now in let k = c.args.column in
    let is = found o.table k c.column.result c.in_ok-record.record c.in_ok-record.ensures.ok_part c.column.ensures in
    let h = read_inside o.table k c.in_ok-record.record is (o.fit c.if-not-self.false) c.if-record.false in
    search rules

pub slice_bounds-new-end : goal.slice_bounds-new-end
slice_bounds-new-end c =
    let o = c.args.self.now in let k = c.args.column in
    let is = found o.table k c.column.result c.in_ok-record.record c.in_ok-record.ensures.ok_part c.column.ensures in
    let h = read_inside o.table k c.in_ok-record.record is (o.fit c.if-not-self.false) c.if-record.false in
    let w = c.requires in
    search rules

pub returns : goal.returns
returns c =
    let o = c.args.self.now in let k = c.args.column in let a = c.args.arena.now in
    let at = fault_at k _ (λ e y h. search rules) c.try_from.result c.map_err.result c.map_err.ensures.cases in
    let kind = kind_is k c.try_from.result c.in_ok-tpe.tpe (sym at ∙ c.in_ok-tpe.was) in
    let d = c.in_ok-record.record in
    let found_is = found o.table k c.column.result d c.in_ok-record.ensures.ok_part c.column.ensures in
    let is = found_is.1 in
    let null = sym (ap (λ (z : ColumnRecord). z.is_null) is) ∙ c.if-record.false in
    let n : d.start + c.byte_count.result - d.start ≡ bytes_of d = omega (arith, c.byte_count.ensures) in
    let there : c.new-value.result.raw.now ≡ take (bytes_of (col o.table k)) (drop (col o.table k).start a) =
    c.new-value.ensures.raw ∙ ap (λ (z : ℕ). take z (drop d.start a)) n ∙ ap (λ (z : ColumnRecord). take (bytes_of z) (drop z.start a)) is in
    ap (λ (t : MysqlType). Ok (Some (record { tpe = t; bytes = c.new-value.result.raw.now }))) c.new-value.ensures.tpe
    ∙ reads_bytes o.shown o.table a k c.in_ok-tpe.tpe c.new-value.result.raw.now found_is.0 c.if-not-self.false null
    (sym (ap (λ (z : ColumnRecord). type_of z.code z.flags) is) ∙ sym c.try_from.ensures ∙ kind) there
