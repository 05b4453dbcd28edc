-- Hidden locals, and what is passed, of each item of a list.
use Rattle.std.specs.Prelude.{ℕ, ◌+◌, List, [], ◌∷◌, length, flat_map, if◌then◌else◌}
use Rattle.ck_base.specs.declared.positions.Pos.{Pos}
use Rattle.c_tree.specs.Types.{bare}
use Rattle.c_tree.specs.Terms.{Variable, Term, type_of, Action}
use Rattle.c_tree.specs.Passed.{Names, Passing, by_pointer, hidden_for, hidden_in, hidden_of, passed_term}
use Rattle.c_tree.specs.Passed.{passed_action, by_address, param_copy}

abbrev pub hidden_in_each : Names → List Term → List Variable
hidden_in_each names xs = flat_map (hidden_in names) xs

abbrev pub hidden_of_each : Names → List Action → List Variable
hidden_of_each names xs = flat_map (hidden_of names) xs

-- for the arguments of a call at a place
abbrev pub hidden_for_each : Names → Pos → List Term → List Variable
hidden_for_each names p xs = flat_map (λ (x : Term). hidden_for names p (type_of x)) xs

abbrev pub passed_each : Passing → ℕ → List Term → List Term
passed_each e n [] = []
passed_each e n (x ∷ xs) = passed_term e n x ∷ passed_each e (n + length (hidden_in e.names x)) xs

abbrev pub passed_each_action : Passing → ℕ → List Action → List Action
passed_each_action e n [] = []
passed_each_action e n (x ∷ xs) = passed_action e n x ∷ passed_each_action e (n + length (hidden_of e.names x)) xs

-- an argument of a call at a place, where its hidden local has this number
abbrev pub passed_argument : Passing → (own n : ℕ) → Pos → Term → Term
passed_argument e own n p x =
    (if by_pointer (type_of x) then by_address own (passed_term e n x) (bare (type_of x)) p else passed_term e n x)

abbrev pub passed_each_argument : Passing → (own n : ℕ) → Pos → List Term → List Term
passed_each_argument e own n p [] = []
passed_each_argument e own n p (x ∷ xs) =
    passed_argument e own n p x ∷ passed_each_argument e (own + length (hidden_for e.names p (type_of x)))
    (n + length (hidden_in e.names x)) p xs

-- the copies of those parameters that come by pointers: parameter `k` as it is run is the first, and local `j` the
-- first that one is copied to
abbrev pub copies_of : (k j : ℕ) → List Variable → List Action
copies_of k j [] = []
copies_of k j (v ∷ vs) = (if by_pointer v.of then param_copy k j v ∷ copies_of (k + 1) (j + 1) vs
    else copies_of (k + 1) j vs)
