use Rattle.std.proofs.Common.{◌≡◌, ℕ, ◌+◌, ◌-◌, [], length, take, drop, length-drop, length-take-le, refl, ap, arith}
use Rattle.ck_base.specs.Lexes.{BeginsWithToken}
use Rattle.c_lex.specs.Pieces.{IsPlaceOf}
use Rattle.c_lex.proofs.Longest.{longest_some}
use Rattle.c_lex.proofs.Stands.{gap_forward}
use Rattle.c_lex.proofs.Positions.{place_pos, place_moved, place_part}
use Rattle.c_lex.proofs.Going.{token_goes_on}
use Rattle.c_lex.proofs.tokens.Tokens.next.Goals as goal
use Rattle.c_lex.proofs.tokens.Tokens.next.Goals.{After-behind_token-end}

-- the token that was found
begins : (c : After-behind_token-end) →
    BeginsWithToken (drop c.find-found.result.0.at c.self.inside.file.now) c.in-Token.kind c.in-Token.n
begins c = rw c.in-Token.is at c.find-found.ensures.found

part : (i n : ℕ) → i + n - i ≡ n
part i n = omega arith

-- the place behind it
behind : (c : After-behind_token-end) →
    (c.behind_token-end.result.at ≡ c.find-found.result.0.at + c.in-Token.n) ×
    IsPlaceOf c.self.inside.file.now c.behind_token-end.result
behind c =
    let file = c.self.inside.file.now in
    let place = c.find-found.result.0 in
    let within = (begins c).longest.within in
    place_moved file place c.behind_token-end.result c.in-Token.n c.find-found.ensures.of_file within
    (λ front is. c.behind_token-end.ensures front (take c.in-Token.n (drop place.at file)) is
    (length-take-le c.in-Token.n (drop place.at file) within)
    (token_goes_on c.in-Token.kind (take c.in-Token.n (drop place.at file)) (begins c).longest.form))

pub overflow_add-text : goal.overflow_add-text
overflow_add-text c =
    let begins = rw c.in-Token.is at c.find-found.ensures.found in
    let long = length-drop c.find-found.result.0.at c.self.inside.file.now in
    omega (arith, begins.longest.within, long, c.find-found.ensures.of_file.within, c.self.invariant.small)

pub slice_bounds-text-end : goal.slice_bounds-text-end
slice_bounds-text-end c =
    let begins = rw c.in-Token.is at c.find-found.ensures.found in
    let long = length-drop c.find-found.result.0.at c.self.inside.file.now in
    omega (arith, begins.longest.within, long, c.find-found.ensures.of_file.within)

pub behind_token-end-requires : goal.behind_token-end-requires
behind_token-end-requires c =
    let begins = rw c.in-Token.is at c.find-found.ensures.found in
    let part = place_part c.self.inside.file.now c.find-found.result.0 c.in-Token.n c.self.invariant.small
    c.find-found.ensures.of_file begins.longest.within in
    let long = length-take-le c.in-Token.n (drop c.find-found.result.0.at c.self.inside.file.now)
    begins.longest.within in
    (part.0, part.1, rw long at part.2)

pub returns-in-Token-clause-accepted : goal.returns-in-Token-clause-accepted
returns-in-Token-clause-accepted c =
    rw (part c.find-found.result.0.at c.in-Token.n)
    (begins (goal.at.returns-in-Token-clause-accepted c).After-behind_token-end).accepted

pub overflow_cast-result-in-Token : goal.overflow_cast-result-in-Token
overflow_cast-result-in-Token c =
    let place = (behind (goal.at.overflow_cast-result-in-Token c).After-behind_token-end).1 in
    omega (arith, place.within, c.self.invariant.small)

pub invariant_of-self : goal.invariant_of-self
invariant_of-self c = record {
  small = c.self.invariant.small;
  of_file = (behind (goal.at.invariant_of-self c).After-behind_token-end).1;
}

pub returns-in-Token-clause-token : goal.returns-in-Token-clause-token
returns-in-Token-clause-token c =
    let here = (goal.at.returns-in-Token-clause-token c).After-behind_token-end in
    let long = (behind here).0 in
    rw (← c.self.view_is) (
      c.find-found.ensures.passed,
      record {
        text = rw long refl;
        pos = place_pos c.self.inside.file.now c.find-found.result.0 c.find-found.ensures.of_file;
        begins = rw (long, part c.find-found.result.0.at c.in-Token.n) (begins here);
      },
    )

pub returns-in-Refused-clause-refusal : goal.returns-in-Refused-clause-refusal
returns-in-Refused-clause-refusal c =
    rw (← c.self.view_is) (
      c.find-found.result.0.at,
      c.find-found.ensures.passed,
      rw c.in-Refused.is at c.find-found.ensures.found,
      place_pos c.self.inside.file.now c.find-found.result.0 c.find-found.ensures.of_file,
    )

pub returns-in-End-clause-end : goal.returns-in-End-clause-end
returns-in-End-clause-end c =
    let nothing : drop c.find-found.result.0.at c.self.inside.file.now ≡ [] =
    rw c.in-End.is at c.find-found.ensures.found in
    let at_end : c.find-found.result.0.at ≡ length c.self.inside.file.now =
    omega (
      arith,
      ap length nothing,
      length-drop c.find-found.result.0.at c.self.inside.file.now,
      c.find-found.ensures.of_file.within,
    ) in
    rw (← c.self.view_is) (rw (← at_end) c.find-found.ensures.passed)

pub returns-in-Token-clause-forward : goal.returns-in-Token-clause-forward
returns-in-Token-clause-forward c =
    let here = (goal.at.returns-in-Token-clause-forward c).After-behind_token-end in
    let place = behind here in
    let some = longest_some _ c.in-Token.kind c.in-Token.n (begins here).longest.form in
    let forward = gap_forward c.find-found.ensures.passed in
    rw (← c.self.view_is) (omega arith, place.1.within)

pub returns-in-Token-clause-long : goal.returns-in-Token-clause-long
returns-in-Token-clause-long c =
    let here = (goal.at.returns-in-Token-clause-long c).After-behind_token-end in
    let place = c.find-found.result.0.at in
    let long = length-take-le c.in-Token.n (drop place c.self.inside.file.now) (begins here).longest.within in
    rw (part place c.in-Token.n) (omega (arith, (behind here).0, long))
