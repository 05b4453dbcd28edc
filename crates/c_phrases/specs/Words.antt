-- A word of no table is an identifier.
use Rattle.c_tree.specs.declared.syntax.Symbol.{Symbol}
use Rattle.c_tree.specs.declared.syntax.Symbol.TheVariants.{Word, Other}

abbrev pub word_or : Symbol → Symbol
word_or Other = Word
word_or s = s
