use Rattle.std.proofs.Common.{refl, sym, subst}
use Rattle.c_phrases.specs.Reading.{parts_of}
use Rattle.c_phrases.specs.Got.{Holds}
use Rattle.c_phrases.proofs.Declaring.{there_at, begins_there}
use Rattle.c_phrases.proofs.declarators.suffix.Goals as goal

pub returns-in_ok-only-in-Some-2-clause-tree : goal.returns-in_ok-only-in-Some-2-clause-tree
returns-in_ok-only-in-Some-2-clause-tree c = λ x m.
    let f = there_at m c.in-Some-2.is in (
      subst (λ v. Holds c.args.cursor.now.nodes.items c.in_ok-only-in-Some-2.field-0 (parts_of v)) (sym f.1)
          (c.in_ok-only-in-Some-2.ensures.one f.0 f.2),
      begins_there m c.in-Some-2.is refl c.place.ensures refl refl,
    )
