use Rattle.std.proofs.Common.{[], ap, sym, refl, arith}
use Rattle.std.proofs.lemmas.Result.{err_from_is_err_and}
use Rattle.recorded.specs.Lines.{left}
use Rattle.recorded.specs.Rooms.{room}
use Rattle.recorded.specs.Grammar.{shapes, a_type, a_number, the_wanted, of_type, of_number, of_bytes, of_value, of_wanted}
use Rattle.recorded.proofs.Asked.{first_wrong, second_wrong, room_bytes, room_wanted}
use Rattle.recorded.proofs.buffers.Buffers.question.Goals as goal
use Rattle.recorded.proofs.buffers.Buffers.question.Goals.{in-Asks+in_ok-tpe-in-Asks, in-Type+in_ok-read_u8-in-Type+in_ok-read_u32-in-Type, in-Size+in_ok-read_u8-in-Size, in-Kept+in_ok-tpe-in-Kept+in_ok-read_u8-in-Kept, in-Keeps+in_ok-tpe-in-Keeps, in-Flags+in_ok-read_u32-in-Flags, in-Kind+in_ok-read_u16-in-Kind, in-Int+in_ok-tpe-in-Int+in_ok-value-in-Int, in-Big+in_ok-tpe-in-Big+in_ok-value-in-Big, in-Time+in_ok-tpe-in-Time+in_ok-value-in-Time, in-Tape+in_ok-wanted-in-Tape+in_ok-bytes-in-Tape, in-Tray+in_ok-read_u16-in-Tray+in_ok-wanted-in-Tray}

pub returns-in_err-tpe-in-Asks : goal.returns-in_err-tpe-in-Asks
returns-in_err-tpe-in-Asks c =
    let b = c.args.self.now in
    let p = err_from_is_err_and c.from_residual.result c.from_residual.ensures.1 in
    first_wrong _ c.args.kind (room b) (left c.args.words.now) _ _ _ p of_type [] (ap shapes c.in-Asks.is) (c.in_err-tpe-in-Asks.ensures (room b))

pub returns-in_err-read_u8-in-Type : goal.returns-in_err-read_u8-in-Type
returns-in_err-read_u8-in-Type c =
    let b = c.args.self.now in
    let p = err_from_is_err_and c.from_residual-in_err-read_u8-in-Type.result c.from_residual-in_err-read_u8-in-Type.ensures.1 in
    first_wrong _ c.args.kind (room b) (left c.args.words.now) _ _ _ p (of_number 8) _ (ap shapes c.in-Type.is) (c.in_err-read_u8-in-Type.ensures (room b))

pub returns-in_err-read_u32-in-Type : goal.returns-in_err-read_u32-in-Type
returns-in_err-read_u32-in-Type c =
    let b = c.args.self.now in
    let p = err_from_is_err_and c.from_residual-in_err-read_u32-in-Type.result c.from_residual-in_err-read_u32-in-Type.ensures.1 in
    second_wrong _ c.args.kind (room b) (left c.args.words.now) _ _ _ p (of_number 8) (of_number 32) [] (a_number 8 c.in_ok-read_u8-in-Type.field-0) _ (ap shapes c.in-Type.is) (c.in_ok-read_u8-in-Type.ensures (room b)) (c.in_err-read_u32-in-Type.ensures (room b))

pub returns-in_err-read_u8-in-Size : goal.returns-in_err-read_u8-in-Size
returns-in_err-read_u8-in-Size c =
    let b = c.args.self.now in
    let p = err_from_is_err_and c.from_residual-in_err-read_u8-in-Size.result c.from_residual-in_err-read_u8-in-Size.ensures.1 in
    first_wrong _ c.args.kind (room b) (left c.args.words.now) _ _ _ p (of_number 8) [] (ap shapes c.in-Size.is) (c.in_err-read_u8-in-Size.ensures (room b))

pub returns-in_err-tpe-in-Kept : goal.returns-in_err-tpe-in-Kept
returns-in_err-tpe-in-Kept c =
    let b = c.args.self.now in
    let p = err_from_is_err_and c.from_residual-in_err-tpe-in-Kept.result c.from_residual-in_err-tpe-in-Kept.ensures.1 in
    first_wrong _ c.args.kind (room b) (left c.args.words.now) _ _ _ p of_type _ (ap shapes c.in-Kept.is) (c.in_err-tpe-in-Kept.ensures (room b))

pub returns-in_err-read_u8-in-Kept : goal.returns-in_err-read_u8-in-Kept
returns-in_err-read_u8-in-Kept c =
    let b = c.args.self.now in
    let p = err_from_is_err_and c.from_residual-in_err-read_u8-in-Kept.result c.from_residual-in_err-read_u8-in-Kept.ensures.1 in
    second_wrong _ c.args.kind (room b) (left c.args.words.now) _ _ _ p of_type (of_number 8) [] (a_type c.in_ok-tpe-in-Kept.field-0) _ (ap shapes c.in-Kept.is) (c.in_ok-tpe-in-Kept.ensures (room b)) (c.in_err-read_u8-in-Kept.ensures (room b))

pub returns-in_err-tpe-in-Keeps : goal.returns-in_err-tpe-in-Keeps
returns-in_err-tpe-in-Keeps c =
    let b = c.args.self.now in
    let p = err_from_is_err_and c.from_residual-in_err-tpe-in-Keeps.result c.from_residual-in_err-tpe-in-Keeps.ensures.1 in
    first_wrong _ c.args.kind (room b) (left c.args.words.now) _ _ _ p of_type [] (ap shapes c.in-Keeps.is) (c.in_err-tpe-in-Keeps.ensures (room b))

pub returns-in_err-read_u32-in-Flags : goal.returns-in_err-read_u32-in-Flags
returns-in_err-read_u32-in-Flags c =
    let b = c.args.self.now in
    let p = err_from_is_err_and c.from_residual-in_err-read_u32-in-Flags.result c.from_residual-in_err-read_u32-in-Flags.ensures.1 in
    first_wrong _ c.args.kind (room b) (left c.args.words.now) _ _ _ p (of_number 32) [] (ap shapes c.in-Flags.is) (c.in_err-read_u32-in-Flags.ensures (room b))

pub returns-in_err-read_u16-in-Kind : goal.returns-in_err-read_u16-in-Kind
returns-in_err-read_u16-in-Kind c =
    let b = c.args.self.now in
    let p = err_from_is_err_and c.from_residual-in_err-read_u16-in-Kind.result c.from_residual-in_err-read_u16-in-Kind.ensures.1 in
    first_wrong _ c.args.kind (room b) (left c.args.words.now) _ _ _ p (of_number 16) [] (ap shapes c.in-Kind.is) (c.in_err-read_u16-in-Kind.ensures (room b))

pub returns-in_err-tpe-in-Int : goal.returns-in_err-tpe-in-Int
returns-in_err-tpe-in-Int c =
    let b = c.args.self.now in
    let p = err_from_is_err_and c.from_residual-in_err-tpe-in-Int.result c.from_residual-in_err-tpe-in-Int.ensures.1 in
    first_wrong _ c.args.kind (room b) (left c.args.words.now) _ _ _ p of_type _ (ap shapes c.in-Int.is) (c.in_err-tpe-in-Int.ensures (room b))

pub returns-in_err-value-in-Int : goal.returns-in_err-value-in-Int
returns-in_err-value-in-Int c =
    let b = c.args.self.now in
    let p = err_from_is_err_and c.from_residual-in_err-value-in-Int.result c.from_residual-in_err-value-in-Int.ensures.1 in
    second_wrong _ c.args.kind (room b) (left c.args.words.now) _ _ _ p of_type of_value [] (a_type c.in_ok-tpe-in-Int.field-0) _ (ap shapes c.in-Int.is) (c.in_ok-tpe-in-Int.ensures (room b)) (c.in_err-value-in-Int.ensures (room b) (room_bytes b))

pub returns-in_err-tpe-in-Big : goal.returns-in_err-tpe-in-Big
returns-in_err-tpe-in-Big c =
    let b = c.args.self.now in
    let p = err_from_is_err_and c.from_residual-in_err-tpe-in-Big.result c.from_residual-in_err-tpe-in-Big.ensures.1 in
    first_wrong _ c.args.kind (room b) (left c.args.words.now) _ _ _ p of_type _ (ap shapes c.in-Big.is) (c.in_err-tpe-in-Big.ensures (room b))

pub returns-in_err-value-in-Big : goal.returns-in_err-value-in-Big
returns-in_err-value-in-Big c =
    let b = c.args.self.now in
    let p = err_from_is_err_and c.from_residual-in_err-value-in-Big.result c.from_residual-in_err-value-in-Big.ensures.1 in
    second_wrong _ c.args.kind (room b) (left c.args.words.now) _ _ _ p of_type of_value [] (a_type c.in_ok-tpe-in-Big.field-0) _ (ap shapes c.in-Big.is) (c.in_ok-tpe-in-Big.ensures (room b)) (c.in_err-value-in-Big.ensures (room b) (room_bytes b))

pub returns-in_err-tpe-in-Time : goal.returns-in_err-tpe-in-Time
returns-in_err-tpe-in-Time c =
    let b = c.args.self.now in
    let p = err_from_is_err_and c.from_residual-in_err-tpe-in-Time.result c.from_residual-in_err-tpe-in-Time.ensures.1 in
    first_wrong _ c.args.kind (room b) (left c.args.words.now) _ _ _ p of_type _ (ap shapes c.in-Time.is) (c.in_err-tpe-in-Time.ensures (room b))

pub returns-in_err-value-in-Time : goal.returns-in_err-value-in-Time
returns-in_err-value-in-Time c =
    let b = c.args.self.now in
    let p = err_from_is_err_and c.from_residual-in_err-value-in-Time.result c.from_residual-in_err-value-in-Time.ensures.1 in
    second_wrong _ c.args.kind (room b) (left c.args.words.now) _ _ _ p of_type of_value [] (a_type c.in_ok-tpe-in-Time.field-0) _ (ap shapes c.in-Time.is) (c.in_ok-tpe-in-Time.ensures (room b)) (c.in_err-value-in-Time.ensures (room b) (room_bytes b))

pub returns-in_err-wanted-in-Tape : goal.returns-in_err-wanted-in-Tape
returns-in_err-wanted-in-Tape c =
    let b = c.args.self.now in
    let p = err_from_is_err_and c.from_residual-in_err-wanted-in-Tape.result c.from_residual-in_err-wanted-in-Tape.ensures.1 in
    first_wrong _ c.args.kind (room b) (left c.args.words.now) _ _ _ p of_wanted _ (ap shapes c.in-Tape.is) (c.in_err-wanted-in-Tape.ensures (room b) (room_wanted b))

pub returns-in_err-bytes-in-Tape : goal.returns-in_err-bytes-in-Tape
returns-in_err-bytes-in-Tape c =
    let b = c.args.self.now in
    let p = err_from_is_err_and c.from_residual-in_err-bytes-in-Tape.result c.from_residual-in_err-bytes-in-Tape.ensures.1 in
    second_wrong _ c.args.kind (room b) (left c.args.words.now) _ _ _ p of_wanted of_bytes [] (the_wanted c.in_ok-wanted-in-Tape.field-0.now) _ (ap shapes c.in-Tape.is) (c.in_ok-wanted-in-Tape.ensures (room b) (room_wanted b)) (c.in_err-bytes-in-Tape.ensures (room b) (room_bytes b))

pub returns-in_err-read_u16-in-Tray : goal.returns-in_err-read_u16-in-Tray
returns-in_err-read_u16-in-Tray c =
    let b = c.args.self.now in
    let p = err_from_is_err_and c.from_residual-in_err-read_u16-in-Tray.result c.from_residual-in_err-read_u16-in-Tray.ensures.1 in
    first_wrong _ c.args.kind (room b) (left c.args.words.now) _ _ _ p (of_number 16) _ (ap shapes c.in-Tray.is) (c.in_err-read_u16-in-Tray.ensures (room b))

pub returns-in_err-wanted-in-Tray : goal.returns-in_err-wanted-in-Tray
returns-in_err-wanted-in-Tray c =
    let b = c.args.self.now in
    let p = err_from_is_err_and c.from_residual-in_err-wanted-in-Tray.result c.from_residual-in_err-wanted-in-Tray.ensures.1 in
    second_wrong _ c.args.kind (room b) (left c.args.words.now) _ _ _ p (of_number 16) of_wanted [] (a_number 16 c.in_ok-read_u16-in-Tray.field-0) _ (ap shapes c.in-Tray.is) (c.in_ok-read_u16-in-Tray.ensures (room b)) (c.in_err-wanted-in-Tray.ensures (room b) (room_wanted b))

pub returns : goal.returns
returns c =
    elim c.match-kind.branch [
      | in-Asks+in_ok-tpe-in-Asks w ↦ rw (w.result-is, w.words-is) (sym w.in-Asks.is, (_, (w.in_ok-tpe-in-Asks.ensures 0).1, refl))
      | in-Type+in_ok-read_u8-in-Type+in_ok-read_u32-in-Type w ↦ rw (w.result-is, w.words-is) (sym w.in-Type.is, (_, (w.in_ok-read_u8-in-Type.ensures 0).1, (_, (w.in_ok-read_u32-in-Type.ensures 0).1, refl)))
      | in-Size+in_ok-read_u8-in-Size w ↦ rw (w.result-is, w.words-is) (sym w.in-Size.is, (_, (w.in_ok-read_u8-in-Size.ensures 0).1, refl))
      | in-Kept+in_ok-tpe-in-Kept+in_ok-read_u8-in-Kept w ↦ rw (w.result-is, w.words-is) (sym w.in-Kept.is, (_, (w.in_ok-tpe-in-Kept.ensures 0).1, (_, (w.in_ok-read_u8-in-Kept.ensures 0).1, refl)))
      | in-Keeps+in_ok-tpe-in-Keeps w ↦ rw (w.result-is, w.words-is) (sym w.in-Keeps.is, (_, (w.in_ok-tpe-in-Keeps.ensures 0).1, refl))
      | in-Flags+in_ok-read_u32-in-Flags w ↦ rw (w.result-is, w.words-is) (sym w.in-Flags.is, (_, (w.in_ok-read_u32-in-Flags.ensures 0).1, refl))
      | in-Kind+in_ok-read_u16-in-Kind w ↦ rw (w.result-is, w.words-is) (sym w.in-Kind.is, (_, (w.in_ok-read_u16-in-Kind.ensures 0).1, refl))
      | in-Int+in_ok-tpe-in-Int+in_ok-value-in-Int w ↦ rw (w.result-is, w.words-is) (sym w.in-Int.is, (_, (w.in_ok-tpe-in-Int.ensures 0).1, (_, (w.in_ok-value-in-Int.ensures 0 (omega arith)).1, refl)))
      | in-Big+in_ok-tpe-in-Big+in_ok-value-in-Big w ↦ rw (w.result-is, w.words-is) (sym w.in-Big.is, (_, (w.in_ok-tpe-in-Big.ensures 0).1, (_, (w.in_ok-value-in-Big.ensures 0 (omega arith)).1, refl)))
      | in-Time+in_ok-tpe-in-Time+in_ok-value-in-Time w ↦ rw (w.result-is, w.words-is) (sym w.in-Time.is, (_, (w.in_ok-tpe-in-Time.ensures 0).1, (_, (w.in_ok-value-in-Time.ensures 0 (omega arith)).1, refl)))
      | in-Tape+in_ok-wanted-in-Tape+in_ok-bytes-in-Tape w ↦ rw (w.result-is, w.words-is) (sym w.in-Tape.is, (_, (w.in_ok-wanted-in-Tape.ensures 0 (omega arith)).1, (_, (w.in_ok-bytes-in-Tape.ensures 0 (omega arith)).1, refl)))
      | in-Tray+in_ok-read_u16-in-Tray+in_ok-wanted-in-Tray w ↦ rw (w.result-is, w.words-is) (sym w.in-Tray.is, (_, (w.in_ok-read_u16-in-Tray.ensures 0).1, (_, (w.in_ok-wanted-in-Tray.ensures 0 (omega arith)).1, refl)))
    ]
