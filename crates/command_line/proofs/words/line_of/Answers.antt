use Rattle.std.proofs.Common.{◌≡◌, ℕ, List, Option, map, subst}
use Rattle.std.specs.Prelude.{MatchOption, string_bytes}
use Rattle.clap.specs.Words.{first_value, found_of}
use Rattle.clap.specs.declared.parser.matches.ArgMatches.{ArgMatches}
use Rattle.command_line.specs.Lines.{Takes, given_in}
use Rattle.command_line.proofs.Given.{line_found}
use Rattle.command_line.proofs.words.line_of.Goals as goal

pub returns-in-Some-clause-is : goal.returns-in-Some-clause-is
returns-in-Some-clause-is c =
    let words = map (λ s. string_bytes s) c.args.words.now in
    let found = subst (λ (r : Option ArgMatches).
    MatchOption r (Takes words →
    ⊥) (λ m. Takes words × ((id : List ℕ) → first_value (found_of m) id ≡ given_in words id))) c.in-Some.is
    c.in_ok-matches.ensures in
    line_found words (first_value (found_of c.in-Some.matches)) found.0 found.1 c.line_in.result c.line_in.ensures.is
