-- Codes that are asked for.
use Rattle.std.specs.Prelude.{Bool, true, false, ◌&&◌, List, [], ◌∷◌, ◌==◌}
use Rattle.mysql.specs.declared.bind.Column.{Column}
use Rattle.host.specs.declared.records.BindRecord.{BindRecord}

-- each record asks for its column's own code
abbrev pub own_codes : List Column → List BindRecord → Bool
own_codes cs [] = true
own_codes [] (b ∷ bs) = false
own_codes (c ∷ cs) (b ∷ bs) = b.code == c.code && own_codes cs bs
