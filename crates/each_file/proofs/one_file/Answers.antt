use Rattle.c_lex.proofs.OneReading.{one_lexing, one_refusal, lexing_no_refusal}
use Rattle.accepted_files.proofs.OneFile as files
use Rattle.c_externals.proofs.StatementsComplete.{one_tree}
use Rattle.each_file.proofs.one_file.Goals as goal

pub returns : goal.returns
returns c = λ bytes. files.one_file bytes (record {
  tokens = one_lexing bytes;
  unrefused = lexing_no_refusal bytes;
  refused = one_refusal bytes;
  syntax = λ a x y d e. one_tree d e;
})
