use Rattle.std.proofs.Common.{sym, refl, ◌∙◌, subst}
use Rattle.mysql.specs.declared.bind.Column.{Column}
use Rattle.host.specs.Fields.{FieldAt}
use Rattle.tape.specs.Format.{field_bytes}
use Rattle.tape.specs.Steps.{NoneBegins}
use Rattle.tape.specs.Unique.{column_one}
use Rattle.tape.specs.Views.{field_of}
use Rattle.tape.proofs.Columned.{column_some, column_none}
use Rattle.tape.proofs.Rowed.{some_field, row_end, row_step}
use Rattle.tape.proofs.recording.FieldsIterator.next.Goals as goal

pub returns-in_err-column-clause-steps : goal.returns-in_err-column-clause-steps
returns-in_err-column-clause-steps c =
    let row = c.args.self.now.rest in
    let none = c.in_err-column.ensures in
    rw c.from_residual.ensures (record {
      gives = λ r h. row_end row.columns.now row.bytes.now r h (column_none row.columns.now r.columns h.columns_in none);
      steps = (λ k later b. absurd (none k later b), refl);
    })

pub returns-in_err-field-clause-steps : goal.returns-in_err-field-clause-steps
returns-in_err-field-clause-steps c =
    let row = c.args.self.now.rest in
    let column = c.in_ok-column.column in
    let columns = c.in_ok-column.columns.now in
    let begins = c.in_ok-column.ensures in
    let none = c.in_err-field.ensures in
    rw c.from_residual-in_err-field.ensures (record {
      gives = λ r h.
          let first = column_some row.columns.now r.columns column columns h.columns_in begins in
          absurd (some_field r.columns r.fields r.rest row.bytes.now column h.row_of h.bytes_are first.0 none);
      steps = (
        λ k later b.
            let same = column_one column k columns later (begins.bytes_are ∙ sym b.bytes_are) in
            subst (λ (d : Column). NoneBegins (FieldAt d.code) field_bytes row.bytes.now) same.0 none,
        refl,
      );
    })

pub returns-clause-steps : goal.returns-clause-steps
returns-clause-steps c =
    let row = c.args.self.now.rest in
    let column = c.in_ok-column.column in
    let columns = c.in_ok-column.columns.now in
    let begins = c.in_ok-column.ensures in
    record {
      gives = λ r h.
          let first = column_some row.columns.now r.columns column columns h.columns_in begins in
          row_step row.columns.now row.bytes.now r column columns (field_of c.in_ok-field.field) c.in_ok-field.bytes.now h first c.in_ok-field.ensures;
      steps = (column, begins, c.in_ok-field.ensures);
    }
