use Rattle.std.proofs.Common.{◌∙◌, arith}
use Rattle.c_tree.specs.Symbols.{keyword_symbols}
use Rattle.c_phrases.proofs.Words.{by_first}
use Rattle.c_phrases.proofs.tables.keyword.Goals as goal

pub returns-in-97 : goal.returns-in-97
unfolding keyword_symbols
returns-in-97 c = c.look_up.ensures ∙ by_first 97 keyword_symbols c.args.text.now (omega arith) (omega arith)

pub returns-in-98 : goal.returns-in-98
unfolding keyword_symbols
returns-in-98 c = c.look_up-in-98.ensures ∙ by_first 98 keyword_symbols c.args.text.now (omega arith) (omega arith)

pub returns-in-99 : goal.returns-in-99
unfolding keyword_symbols
returns-in-99 c = c.look_up-in-99.ensures ∙ by_first 99 keyword_symbols c.args.text.now (omega arith) (omega arith)

pub returns-in-100 : goal.returns-in-100
unfolding keyword_symbols
returns-in-100 c = c.look_up-in-100.ensures ∙ by_first 100 keyword_symbols c.args.text.now (omega arith) (omega arith)

pub returns-in-101 : goal.returns-in-101
unfolding keyword_symbols
returns-in-101 c = c.look_up-in-101.ensures ∙ by_first 101 keyword_symbols c.args.text.now (omega arith) (omega arith)

pub returns-in-102 : goal.returns-in-102
unfolding keyword_symbols
returns-in-102 c = c.look_up-in-102.ensures ∙ by_first 102 keyword_symbols c.args.text.now (omega arith) (omega arith)

pub returns-in-105 : goal.returns-in-105
unfolding keyword_symbols
returns-in-105 c = c.look_up-in-105.ensures ∙ by_first 105 keyword_symbols c.args.text.now (omega arith) (omega arith)

pub returns-in-108 : goal.returns-in-108
unfolding keyword_symbols
returns-in-108 c = c.look_up-in-108.ensures ∙ by_first 108 keyword_symbols c.args.text.now (omega arith) (omega arith)

pub returns-in-114 : goal.returns-in-114
unfolding keyword_symbols
returns-in-114 c = c.look_up-in-114.ensures ∙ by_first 114 keyword_symbols c.args.text.now (omega arith) (omega arith)

pub returns-in-115 : goal.returns-in-115
unfolding keyword_symbols
returns-in-115 c = c.look_up-in-115.ensures ∙ by_first 115 keyword_symbols c.args.text.now (omega arith) (omega arith)

pub returns-in-116 : goal.returns-in-116
unfolding keyword_symbols
returns-in-116 c = c.look_up-in-116.ensures ∙ by_first 116 keyword_symbols c.args.text.now (omega arith) (omega arith)

pub returns-in-117 : goal.returns-in-117
unfolding keyword_symbols
returns-in-117 c = c.look_up-in-117.ensures ∙ by_first 117 keyword_symbols c.args.text.now (omega arith) (omega arith)

pub returns-in-118 : goal.returns-in-118
unfolding keyword_symbols
returns-in-118 c = c.look_up-in-118.ensures ∙ by_first 118 keyword_symbols c.args.text.now (omega arith) (omega arith)

pub returns-in-119 : goal.returns-in-119
unfolding keyword_symbols
returns-in-119 c = c.look_up-in-119.ensures ∙ by_first 119 keyword_symbols c.args.text.now (omega arith) (omega arith)

pub returns-in-95 : goal.returns-in-95
unfolding keyword_symbols
returns-in-95 c = c.look_up-in-95.ensures ∙ by_first 95 keyword_symbols c.args.text.now (omega arith) (omega arith)
