-- Text that grows by a function or a call.
use Rattle.std.proofs.Common.{◌≡◌, ℕ, suc, ◌+◌, List, ◌++◌, sym, ap, ◌∙◌, append_assoc, append-nil, arith}
use Rattle.generator.specs.Generated.{function_line, function_lines, call, calls}

pub no_functions : (start : List ℕ) → start ≡ start ++ function_lines 0
unfolding function_lines
no_functions start = sym (append-nil start)

pub one_function : (start text more : List ℕ) (k : ℕ) → text ≡ start ++ function_lines k →
    more ≡ text ++ function_line k → more ≡ start ++ function_lines (k + 1)
unfolding function_lines
one_function start text more k is grown =
    let next : suc k ≡ k + 1 = omega arith in
    grown ∙ ap (λ t. t ++ function_line k) is ∙ append_assoc start (function_lines k) (function_line k)
    ∙ ap (λ n. start ++ function_lines n) next

pub no_calls : (start : List ℕ) → start ≡ start ++ calls 0
unfolding calls
no_calls start = sym (append-nil start)

pub one_call : (start text more : List ℕ) (k : ℕ) → text ≡ start ++ calls k → more ≡ text ++ call k →
    more ≡ start ++ calls (k + 1)
unfolding calls
one_call start text more k is grown =
    let next : suc k ≡ k + 1 = omega arith in
    grown ∙ ap (λ t. t ++ call k) is ∙ append_assoc start (calls k) (call k) ∙ ap (λ n. start ++ calls n) next
