-- A file is one program or has one refusal.
use Rattle.std.proofs.Common.{ℕ, List}
use Rattle.c_lex.proofs.OneReading.{one_lexing, one_refusal, lexing_no_refusal}
use Rattle.c_externals.proofs.StatementsComplete.{one_tree}
use Rattle.accepted_files.specs.Accepted.{OneFile}
use Rattle.accepted_files.proofs.OneFile as files

pub once : (file : List ℕ) → OneFile file
once file = files.one_file file (record {
  tokens = one_lexing file;
  unrefused = lexing_no_refusal file;
  refused = one_refusal file;
  syntax = λ a x y d e. one_tree d e;
})
