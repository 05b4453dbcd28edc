use Rattle.std.proofs.Common.{◌≡◌, ◌-◌, ◌≤◌, List, length}
use Rattle.ck_base.specs.Tokens.{Lexeme}
use Rattle.ck_base.specs.Lexes.{Reads}
use Rattle.c_lex.proofs.laws.token_count.Given as goal

-- the tokens up to here were read and counted
abbrev pub invariant-loop-next : goal.invariant-loop-next
invariant-loop-next l = record {
  file : l.tokens.file ≡ l.file;
  few : l.count ≤ l.tokens.at;
  reads : (tokens : List Lexeme) × Reads l.file 0 tokens l.tokens.at × (length tokens ≡ l.count);
}

abbrev pub decreases-loop-next : goal.decreases-loop-next
decreases-loop-next l = length l.tokens.file - l.tokens.at
