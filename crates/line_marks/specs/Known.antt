-- What the code knows before a line, in the words of the definitions.
use Rattle.line_marks.specs.Marks.{Known as Knows}
use Rattle.line_marks.specs.declared.places.Known.{Known}

abbrev pub known_of : Known → Knows
known_of k =
    record { commented = k.commented; line = k.line; from = k.from; number = k.number; name = k.name.now }
