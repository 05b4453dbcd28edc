use Rattle.std.proofs.Common.{◌≡◌, ◌++◌, map, reverse, take}
use Rattle.c_phrases.specs.Got.{in_force}
use Rattle.c_parse.proofs.files.declare_all.Given as goal

abbrev pub invariant-loop-name : goal.invariant-loop-name
invariant-loop-name l = in_force l.types ≡ reverse (map (λ name. name.now) (take l.name-index l.names))
    ++ in_force l.fn.types
