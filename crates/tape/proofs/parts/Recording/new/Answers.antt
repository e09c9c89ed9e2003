use Rattle.tape.specs.Unique.{tape_one}
use Rattle.tape.proofs.parts.Recording.new.Goals as goal

pub returns-clause-one : goal.returns-clause-one
returns-clause-one c = tape_one c.args.bytes.now
