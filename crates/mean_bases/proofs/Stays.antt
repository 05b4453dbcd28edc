-- What holds of each value that a moment has is kept by each act, where operations give such values from such values.
use Rattle.std.proofs.Common.{◌≡◌, ℕ, zero, suc, ◌+◌, ◌-◌, ◌*◌, ◌/◌, ◌^◌, Bool, true, false, not, List, [], ◌∷◌}
use Rattle.std.proofs.Common.{replicate, Option}
use Rattle.std.proofs.Common.{Some, None, Result, Ok, Err, refl, sym, subst, pos}
use Rattle.std.specs.Prelude.{IfOk, slice_get, slice_set, slice_index_or, if◌then◌else◌}
use Rattle.ck_base.specs.Runs.{Act, Goes, Puts, Reads, Ends}
use Rattle.ck_base.specs.declared.positions.Pos.{Pos}
use Rattle.ck_int.specs.Arithmetic.{binary_of}
use Rattle.ck_int.specs.Kinds.{wrapped}
use Rattle.ck_int.specs.declared.kinds.CmpOp.TheVariants.{Eq}
use Rattle.ck_int.specs.declared.kinds.IntKind.{IntKind}
use Rattle.ck_int.specs.declared.kinds.IntKind.TheVariants as int
use Rattle.ck_int.specs.declared.kinds.IntOp.{IntOp}
use Rattle.ck_int.specs.declared.kinds.IntOp.TheVariants as op
use Rattle.cap_ops.specs.Permissions.{data_permissions}
use Rattle.obj_mem.specs.Values.{Value}
use Rattle.obj_mem.specs.Values as value
use Rattle.obj_mem.specs.declared.ending.Ending.{Ending}
use Rattle.obj_mem.specs.declared.ending.Fault.{Fault}
use Rattle.obj_mem.specs.declared.ending.UnitFault.{UnitFault}
use Rattle.cheri_c_sem.specs.Kinds.{Kind, Plain, Capability, bytes_of, read_as, nothing, number_of, truth, pointer}
use Rattle.cheri_c_sem.specs.Kinds.{address_kind, int_kind}
use Rattle.cheri_c_sem.specs.Operations.{Operations, Work, Set_address, on_ok, compare_by, convert_by, is_true, to_int}
use Rattle.cheri_c_sem.specs.Operations.{int_by, number_by, derive_by, move_by, steps_of, capability_by, is_live}
use Rattle.cheri_c_sem.specs.Steps.{byte_or_end}
use Rattle.cheri_c_sem.specs.Tree.{Operation, Whole, Derived, Moved, Apart, Sign, Positive, Negative, Complement}
use Rattle.cheri_c_sem.specs.Tree.{Service, Put_char, Get_char, Malloc, Exit, Address, Bounds, Works, Ex, Number, Null}
use Rattle.cheri_c_sem.specs.Tree.{Load, Aggregate, Pointer_to, Convert, Discard, Unary, Not, Binary, Compare, And, Or}
use Rattle.cheri_c_sem.specs.Tree.{Conditional, Comma, Assign, Copy, Compound, Call, Library, Variable, Local, Object}
use Rattle.cheri_c_sem.specs.Tree.{Function, Deref, Member, Declared, Simple, Objects, Label, Case, Default, St, Give}
use Rattle.cheri_c_sem.specs.Tree.{Init, Fill, Block, If, For, Switch, Break, Continue, Return}
use Rattle.cheri_c_sem.specs.Tree.{Sts, End, Seq, Narrowing, Parameter, In_variable, In_object, At_end, Gives_nothing}
use Rattle.cheri_c_sem.specs.Tree.{Gives_zero, Lacks, Fun}
use Rattle.cheri_c_sem.specs.Meaning.{Place, In, At, position_of, capability_of, further, first_of, second_of}
use Rattle.cheri_c_sem.specs.Meaning.{nowhere, operate_by, sign_by}
use Rattle.cheri_c_sem.specs.Statements.{Flow, Breaks, Continues, Returns, default_of, label_value}
use Rattle.cheri_c_sem.specs.Statements as flow
use Rattle.cheri_c_sem.specs.Calls.{add_locals, end_locals}
use Rattle.mean_steps.specs.Parts.{Now, Came, On, Over, Part, next_of, give, answer, unit_answer, turn_from, turn}
use Rattle.mean_steps.specs.Parts.{choose, ask, set_memory, change_memory, set_variable, given, load, store, copy_units}
use Rattle.mean_steps.specs.Parts.{copy, point_to, part_of_local, test, allocate, enter_one, enter, leave_one, leave}
use Rattle.mean_steps.specs.Parts.{find_label, compatible, called, frame, pass_one, pass, at_end, close}
use Rattle.mean_steps.specs.Machine as machine
use Rattle.mean_steps.specs.Machine.{Loop, Before, Behind, Item, Evaluate, Designate, Drop, Finish, Finish_place}
use Rattle.mean_steps.specs.Machine.{Choose, Choose_place, Decide, Begin, Leave_function, Execute, Rest, Initialize}
use Rattle.mean_steps.specs.Machine.{Branch, Test, Tested, Again, Turn, Choose_label, Switch_end, Leave, Give_back}
use Rattle.mean_steps.specs.Machine.{Caller, Moment, no_world, behind, first_place, turned, beyond, count_of}
use Rattle.mean_steps.specs.Machine.{with_value, with_place, less_value, less_place, doing, done_in, caller_of, back}
use Rattle.mean_steps.specs.Machine.{turn_behind}
use Rattle.mean_steps.specs.Machine.{evaluate, designate, finish, values_behind, places_behind, finished, opened, call}
use Rattle.mean_steps.specs.Machine.{closed, serve, finish_item, finish_place, chosen, choose_item, choose_place}
use Rattle.mean_steps.specs.Machine.{decide, jumped, execute, proceed, initialize, branch, at_test, turned_to, tested}
use Rattle.mean_steps.specs.Machine.{again, to_label, choose_label, act_on, act_of, act}
use Rattle.mean_bases.specs.Moments.{LeadsTo, Leads, IsReached, Each, OfGiven, OfVariables, OfPlace, OfPlaces}
use Rattle.mean_bases.specs.Moments.{OfCallers, OfNow, OfMoment}

-- what a part of a run comes to, if it goes on
abbrev Yields : {M A : Type 0} → (A → Now M → Type 0) → Came M A → Type 0
Yields Q (On x n) = Q x n
Yields Q (Over e) = Unit {0}

next_yields : {M A B : Type 0} (Q : A → Now M → Type 0) (R : B → Now M → Type 0) (r : Came M A) (f : A → Part M B)
    → Yields Q r → ((x : A) (n : Now M) → Q x n → Yields R (f x n)) → Yields R (next_of r f)
next_yields Q R (On x n) f h g = g x n h
next_yields Q R (Over e) f h g = tt

-- nothing is said of it
abbrev Any : {A : Type 0} → A → Type 0
Any x = Unit {0}

any : {A : Type 0} (r : Result A Fault) → IfOk r Any
any (Ok x) = tt
any (Err e) = tt

-- What holds of values, of memory, and of the addresses of frames
module _ {M : Type 0} (ops : Operations M) (funs : List Fun) (Q : Value → Type 0) (R : M → Type 0) (F : ℕ → Type 0)
  where
    pub record Keeps : Type 0 where
      pub numbers : (n : ℕ) → Q (value.Int n)
      pub nulls : (n : ℕ) → Q (value.Raw n 0)
      pub functions : (f : ℕ) → Q (value.Fun f)
      pub offset : (m : M) (v : Value) (by : ℕ) → Q v → IfOk (ops.offset m v by) Q
      pub narrow : (m : M) (v : Value) (n : ℕ) (exact : Bool) → Q v → IfOk (ops.narrow m v n exact) Q
      pub work : (m : M) (w : Work) (v x : Value) → Q v → IfOk (ops.work m w v x) Q
      pub load : (m : M) (p : Value) (n : ℕ) → R m → IfOk (ops.load m p n) Q
      pub store : (m : M) (p v : Value) (n : ℕ) → R m → Q v → IfOk (ops.store m p n v) R
      pub copy_unit : (m : M) (from to : Value) (n : ℕ) → R m → IfOk (ops.copy_unit m from to n) R
      pub note_member : (m : M) (v : Value) (own : ℕ) → R m → R (ops.note_member m v own)
      pub unset : (k : Kind) → IfOk (ops.unset k) Q
      pub falls : (k : Kind) → IfOk (ops.falls k) Q
      pub whole : (m : M) (object permissions : ℕ) → R m → Q (ops.whole m object permissions)
      pub zero : (m : M) (object : ℕ) → R m → R (ops.zero m object)
      pub leave : (m : M) (object : ℕ) → R m → R (ops.leave m object)
      pub end : (m : M) (object : ℕ) → R m → R (ops.end m object)
      pub allocate : (m : M) (n : ℕ) → R m → IfOk (ops.allocate m n) (λ r. Q r.0 × R r.1)
      pub opens : (m : M) (f at address : ℕ) (g : Fun) → slice_get funs f ≡ Some g → ops.enter f address ≡ Some at →
          F address → R m → R (add_locals ops m at f 0 g.objects) × F at

    module _ (keeps : Keeps) where
      -- ---- lists

      first_is : (vs : List Value) → Each Q vs → Q (first_of vs)
      first_is [] h = keeps.numbers 0
      first_is (v ∷ vs) h = h.0

      second_is : (vs : List Value) → Each Q vs → Q (second_of vs)
      second_is [] h = keeps.numbers 0
      second_is (v ∷ vs) h = first_is vs h.1

      less_values : (vs : List Value) → Each Q vs → Each Q (behind vs)
      less_values [] h = tt
      less_values (v ∷ vs) h = h.1

      less_places : (ps : List Place) → OfPlaces Q ps → OfPlaces Q (behind ps)
      less_places [] h = tt
      less_places (p ∷ ps) h = h.1

      turned_each : (n : ℕ) (vs others : List Value) → Each Q vs → Each Q others → Each Q (turned n vs others)
      turned_each zero vs others h i = i
      turned_each (suc n) [] others h i = i
      turned_each (suc n) (v ∷ vs) others h i = turned_each n vs (v ∷ others) h.1 (h.0, i)

      beyond_each : (n : ℕ) (vs : List Value) → Each Q vs → Each Q (beyond n vs)
      beyond_each zero vs h = h
      beyond_each (suc n) [] h = tt
      beyond_each (suc n) (v ∷ vs) h = beyond_each n vs h.1

      place_is : (ps : List Place) → OfPlaces Q ps → OfPlace Q (first_place ps)
      place_is [] h = keeps.nulls 0
      place_is (p ∷ ps) h = h.0

      capability_is : (p : Place) → OfPlace Q p → Q (capability_of p)
      capability_is (In p x) h = keeps.nulls 0
      capability_is (At p v) h = h

      no_values : (n : ℕ) → OfVariables Q (replicate n None)
      no_values zero = tt
      no_values (suc n) = (tt, no_values n)

      with_variable : (os : List (Option Value)) (x : ℕ) (o : Option Value) → OfVariables Q os → OfGiven Q o →
          OfVariables Q (slice_set os x o)
      with_variable [] x o h i = h
      with_variable (y ∷ os) zero o h i = (i, h.1)
      with_variable (y ∷ os) (suc x) o h i = (h.0, with_variable os x o h.1 i)

      abbrev OfFound : Option (Option Value) → Type 0
      OfFound None = Unit {0}
      OfFound (Some o) = OfGiven Q o

      found : (os : List (Option Value)) (x : ℕ) → OfVariables Q os → OfFound (slice_get os x)
      found [] x h = tt
      found (o ∷ os) zero h = h.0
      found (o ∷ os) (suc x) h = found os x h.1

      -- ---- values

      ok_then : {A B : Type 0} (P : B → Type 0) (f : A → Result B Fault) (r : Result A Fault) →
          ((x : A) → IfOk (f x) P) →
          IfOk (on_ok ops f r) P
      ok_then P f (Ok x) h = h x
      ok_then P f (Err e) h = tt

      either : (b : Bool) (x y : Value) → Q x → Q y → Q (if b then x else y)
      either true x y h i = h
      either false x y h i = i

      one_of : (b : Bool) (r s : Result Value Fault) → IfOk r Q → IfOk s Q → IfOk (if b then r else s) Q
      one_of true r s h i = h
      one_of false r s h i = i

      truth_is : (b : Bool) → Q (truth b)
      truth_is true = keeps.numbers 1
      truth_is false = keeps.numbers 0

      end_is : (b : Option ℕ) → Q (byte_or_end b)
      end_is None = keeps.numbers _
      end_is (Some b) = keeps.numbers b

      read_is : (k : Kind) (v : Value) → Q v → Q (read_as k v)
      read_is (Plain k) v h = keeps.numbers _
      read_is (Capability signed) v h = h

      number_given : (m : M) (k : IntKind) (x : Value)
          → IfOk (on_ok ops (λ a. Ok (value.Int (wrapped k (pos a)))) (ops.address m x)) Q
      number_given m k x = ok_then Q _ (ops.address m x) (λ a. keeps.numbers _)

      int_given : (m : M) (k : IntKind) (x : Value) → IfOk (to_int ops m k x) Q
      int_given m int.Bool x = ok_then Q _ (is_true ops m pointer x) truth_is
      int_given m k x = number_given m k x

      converted : (m : M) (old new : Kind) (x : Value) → Q x → IfOk (convert_by ops m old new x) Q
      converted m (Plain j) (Plain k) x h = keeps.numbers _
      converted m (Plain j) (Capability signed) x h = keeps.nulls _
      converted m (Capability signed) (Plain k) x h = int_given m k x
      converted m (Capability signed) (Capability other) x h = h

      int_made : (m : M) (o : IntOp) (k : IntKind) (count : Kind) (x y : Value) → IfOk (int_by ops m o k count x y) Q
      int_made m o k count x y =
          let by : ℕ → Result ℕ Fault = λ b. ops.int o k (int_kind count) (number_of x) b in
          ok_then Q (λ b. on_ok ops (λ n. Ok (value.Int n)) (by b)) (number_by ops m count y)
          (λ b. ok_then Q (λ n. Ok (value.Int n)) (by b) keeps.numbers)

      derived : (m : M) (o : IntOp) (signed : Bool) (count : Kind) (right : Bool) (x y : Value) → Q x → Q y →
          IfOk (derive_by ops m o signed count right x y) Q
      derived m o signed count right x y h i =
          let set : ℕ → Result Value Fault = λ n. ops.work m Set_address (if right then y else x) (value.Int n) in
          let by : ℕ → ℕ → Result ℕ Fault = λ a b. ops.int o (address_kind signed) (int_kind count) a b in
          ok_then Q (λ a. on_ok ops (λ b. on_ok ops set (by a b)) (number_by ops m count y)) (ops.address m x)
          (λ a. ok_then Q (λ b. on_ok ops set (by a b)) (number_by ops m count y)
          (λ b. ok_then Q set (by a b)
          (λ n. keeps.work m Set_address (if right then y else x) (value.Int n) (either right y x i h))))

      moved : (m : M) (minus : Bool) (x : Value) (n : ℕ) → Q x → IfOk (move_by ops m minus x n) Q
      moved m minus x n h = keeps.offset m x (steps_of ops minus n) h

      -- moved by a number that is given
      moved_by : (m : M) (minus : Bool) (x : Value) (r : Result ℕ Fault) → Q x →
          IfOk (on_ok ops (move_by ops m minus x) r) Q
      moved_by m minus x r h = ok_then Q (move_by ops m minus x) r (λ n. moved m minus x n h)

      moved_far : (m : M) (size : ℕ) (minus : Bool) (x : Value) (r : Result ℕ Fault) → Q x →
          IfOk (on_ok ops (λ n. move_by ops m minus x (n * size)) r) Q
      moved_far m size minus x r h =
          ok_then Q (λ n. move_by ops m minus x (n * size)) r (λ n. moved m minus x (n * size) h)

      capability_made : (m : M) (o : IntOp) (signed : Bool) (count : Kind) (right plain : Bool) (x y : Value) → Q x →
          Q y → IfOk (capability_by ops m o signed count right plain x y) Q
      capability_made m op.Add signed count false true x y h i =
          one_of (is_live ops x) (on_ok ops (move_by ops m false x) (number_by ops m count y))
          (derive_by ops m op.Add signed count false x y) (moved_by m false x (number_by ops m count y) h)
          (derived m op.Add signed count false x y h i)
      capability_made m op.Add signed count true true x y h i =
          one_of (is_live ops y) (on_ok ops (move_by ops m false y) (ops.address m x))
          (derive_by ops m op.Add signed count true x y) (moved_by m false y (ops.address m x) i)
          (derived m op.Add signed count true x y h i)
      capability_made m op.Sub signed count false true x y h i =
          one_of (is_live ops x) (on_ok ops (move_by ops m true x) (number_by ops m count y))
          (derive_by ops m op.Sub signed count false x y) (moved_by m true x (number_by ops m count y) h)
          (derived m op.Sub signed count false x y h i)
      capability_made m o signed count right plain x y h i = derived m o signed count right x y h i

      operated : (o : Operation) (m : M) (x y : Value) → Q x → Q y → IfOk (operate_by ops no_world o m x y) Q
      operated (Whole o k count) m x y h i = int_made m o k count x y
      operated (Derived o signed count right plain) m x y h i = capability_made m o signed count right plain x y h i
      operated (Moved size minus false index) m x y h i = moved_far m size minus x (number_by ops m index y) h
      operated (Moved size minus true index) m x y h i = moved_far m size minus y (number_by ops m index x) i
      operated (Apart size) m x y h i =
          ok_then Q (λ d. Ok (value.Int (binary_of op.Div int.I64 d size))) (ops.difference m x y)
          (λ d. keeps.numbers _)

      signed_is : (s : Sign) (k : Kind) (m : M) (x : Value) → Q x → IfOk (sign_by ops no_world s k m x) Q
      signed_is Positive (Plain k) m x h = h
      signed_is Negative (Plain k) m x h = int_made m op.Sub k (Plain k) (value.Int 0) x
      signed_is Complement (Plain k) m x h = int_made m op.Xor k (Plain k) (value.Int (2 ^ 64 - 1)) x
      signed_is Positive (Capability signed) m x h =
          derived m op.Xor signed (Capability signed) true _ x (keeps.nulls 0) h
      signed_is Negative (Capability signed) m x h =
          derived m op.Sub signed (Capability signed) true _ x (keeps.nulls 0) h
      signed_is Complement (Capability signed) m x h =
          derived m op.Xor signed (Capability signed) true _ x (keeps.nulls _) h

      -- ---- parts

      abbrev Stays : Now M → Type 0
      Stays n = OfNow Q R F n

      abbrev Gives : {A : Type 0} → (A → Type 0) → Came M A → Type 0
      Gives P r = Yields (λ x n. P x × Stays n) r

      abbrev Keeping : {A : Type 0} → (A → Type 0) → Part M A → Type 0
      Keeping P p = (n : Now M) → Stays n → Gives P (p n)

      bind : {A B : Type 0} (P : A → Type 0) (S : B → Type 0) (p : Part M A) (f : A → Part M B) → Keeping P p →
          ((x : A) → P x → Keeping S (f x)) → Keeping S (λ n. next_of (p n) f)
      bind P S p f h g n i =
          next_yields (λ x t. P x × Stays t) (λ x t. S x × Stays t) (p n) f (h n i) (λ x t k. g x k.0 t k.1)

      answered : {A : Type 0} (P : A → Type 0) (at : Pos) (r : Result A Fault) → IfOk r P →
          Keeping {A = A} P (answer at r)
      answered P at (Ok x) h n i = (h, i)
      answered P at (Err f) h n i = tt

      asked : {A : Type 0} (P : A → Type 0) (at : Pos) (f : M → Result A Fault) → ((m : M) → R m → IfOk (f m) P) →
          Keeping P (ask at f)
      asked P at f h n i = answered P at (f n.mem) (h n.mem i.1) n i

      turn_kept : (left : ℕ) → Keeping Any (turn_from left)
      turn_kept zero n i = tt
      turn_kept (suc j) n i = (tt, i)

      turns : Keeping Any turn
      turns n i = turn_kept n.left n i

      given_kept : (p : Pos) (k : Kind) (o : Option (Option Value)) → OfFound o → Keeping Q (given ops p k o)
      given_kept p k (Some (Some v)) h n i = (h, i)
      given_kept p k (Some None) h n i = answered Q p (ops.unset k) (keeps.unset k) n i
      given_kept p k None h n i = answered Q p (ops.unset k) (keeps.unset k) n i

      loads : (k : Kind) (p : Place) → Keeping Q (load ops k p)
      loads k (In p x) n i = given_kept p k (slice_get n.vars x) (found n.vars x i.0) n i
      loads k (At p v) n i =
          bind Q Q (ask p (λ m. ops.load m v (bytes_of k))) (λ r. give (read_as k r))
          (asked Q p (λ m. ops.load m v (bytes_of k)) (λ m h. keeps.load m v (bytes_of k) h))
          (λ r h t j. (read_is k r h, j)) n i

      stored : (p : Pos) (n : Now M) (r : Result M Fault) → IfOk r R → Stays n →
          Gives Any (next_of (answer p r n) (λ m. set_memory m))
      stored p n (Ok m) h i = (tt, (i.0, h, i.2))
      stored p n (Err f) h i = tt

      stores : (k : Kind) (p : Place) (v : Value) → Q v → Keeping Any (store ops k p v)
      stores k (In p x) v h n i = (tt, (with_variable n.vars x (Some v) i.0 h, i.1, i.2))
      stores k (At p to) v h n i =
          stored p n (ops.store n.mem to (bytes_of k) v) (keeps.store n.mem to v (bytes_of k) i.1 h) i

      copies_units : (j unit at : ℕ) (from to : Place) → Keeping Any (copy_units ops j unit at from to)
      copies_units zero unit at from to n i = (tt, i)
      copies_units (suc j) unit at from to n i =
          let a = further (capability_of from) at in
          let b = further (capability_of to) at in
          go (ops.copy_unit n.mem a b unit) (keeps.copy_unit n.mem a b unit i.1)
          (λ m h. copies_units j unit (at + unit) from to (record n { mem = m }) (i.0, h, i.2))
        where
          go : (r : Result M UnitFault) → IfOk r R
              → ((m : M) → R m → Gives Any (copy_units ops j unit (at + unit) from to (record n { mem = m })))
              → Gives Any (next_of (unit_answer (position_of from) (position_of to) r n)
              (λ m t. next_of (set_memory m t) (λ _. copy_units ops j unit (at + unit) from to)))
          go (Ok m) h rest = rest m h
          go (Err f) h rest = tt

      copies : (p : Pos) (bytes unit : ℕ) (from to : Place) → Keeping Any (copy ops p bytes unit from to)
      copies p bytes unit from to n i =
          let r = ops.overlap (capability_of from) (capability_of to) bytes in
          bind Any Any (answer p r) (λ _. copy_units ops (bytes / unit) unit 0 from to) (answered Any p r (any r))
          (λ _ h. copies_units (bytes / unit) unit 0 from to) n i

      points : (p : Pos) (o : Option Narrowing) (to : Place) → OfPlace Q to → Keeping Q (point_to ops p o to)
      points p None to h n i = (capability_is to h, i)
      points p (Some w) to h n i =
          bind Q Q (ask p (λ m. ops.narrow m (capability_of to) w.owned true))
          (λ r t. next_of (change_memory (λ m. ops.note_member m r w.own) t) (λ _. give r))
          (asked Q p (λ m. ops.narrow m (capability_of to) w.owned true)
          (λ m _. keeps.narrow m (capability_of to) w.owned true (capability_is to h)))
          (λ r k t j. (k, (j.0, keeps.note_member t.mem r w.own j.1, j.2))) n i

      local_part : (p : Pos) (local offset : ℕ) → Keeping (OfPlace Q) (part_of_local ops p local offset)
      local_part p local offset n i =
          let f : M → Result Value Fault =
          λ m. ops.offset m (ops.whole m (n.first + local) data_permissions) offset in
          bind Q (OfPlace Q) (ask p f) (λ v. give (At p v))
          (asked Q p f (λ m h. keeps.offset m (ops.whole m (n.first + local) data_permissions) offset
          (keeps.whole m (n.first + local) data_permissions h)))
          (λ v h t j. (h, j)) n i

      tests : (p : Pos) (k : Kind) (v : Value) → Keeping Any (test ops p k v)
      tests p k v = asked Any p (λ m. is_true ops m k v) (λ m h. any (is_true ops m k v))

      compares : (p : Pos) (f : M → Result Bool Fault) → Keeping Any (ask p f)
      compares p f = asked Any p f (λ m h. any (f m))

      abbrev IsAllocated : Value × M → Type 0
      IsAllocated r = Q r.0 × R r.1

      allocates : (p : Pos) (j : ℕ) → Keeping Q (allocate ops p j)
      allocates p j n i = go (ops.allocate n.mem j) (keeps.allocate n.mem j i.1)
        where
          go : (r : Result (Value × M) Fault) → IfOk r IsAllocated
              → Gives Q (next_of (answer p r n) (λ x t. next_of (set_memory x.1 t) (λ _. give x.0)))
          go (Ok x) h = (h.0, (i.0, h.1, i.2))
          go (Err f) h = tt

      enters_one : (d : Declared) → Keeping Any (enter_one ops d)
      enters_one (Simple x) n i = (tt, (with_variable n.vars x None i.0 tt, i.1, i.2))
      enters_one (Objects j) n i = (tt, (i.0, keeps.zero n.mem (n.first + j) i.1, i.2))

      enters : (ds : List Declared) → Keeping Any (enter ops ds)
      enters [] n i = (tt, i)
      enters (d ∷ ds) n i = bind Any Any (enter_one ops d) (λ _. enter ops ds) (enters_one d) (λ _ h. enters ds) n i

      leaves_one : (d : Declared) → Keeping Any (leave_one ops d)
      leaves_one (Simple x) n i = (tt, i)
      leaves_one (Objects j) n i = (tt, (i.0, keeps.leave n.mem (n.first + j) i.1, i.2))

      leaves : (ds : List Declared) → Keeping Any (leave ops ds)
      leaves [] n i = (tt, i)
      leaves (d ∷ ds) n i = bind Any Any (leave_one ops d) (λ _. leave ops ds) (leaves_one d) (λ _ h. leaves ds) n i

      finds : (p : Pos) (k : Kind) (v : Value) (ls : List Label) (o : Option ℕ) →
          Keeping Any (find_label ops p k v ls o)
      finds p k v [] o n i = (tt, i)
      finds p k v (Default j ∷ ls) o n i = finds p k v ls o n i
      finds p k v (Case c j ∷ ls) o n i =
          let f : M → Result Bool Fault = λ m. compare_by ops m Eq k v (label_value k c) in
          bind Any Any (ask p f) (λ same. choose same (give (Some j)) (find_label ops p k v ls o)) (compares p f)
          (λ same h. go same (finds p k v ls o)) n i
        where
          go : (b : Bool) → Keeping Any (find_label ops p k v ls o) →
              Keeping Any (choose b (give (Some j)) (find_label ops p k v ls o))
          go true rest t i = (tt, i)
          go false rest t i = rest t i

      passes_one : (p : Pos) (a : Parameter) (v : Value) → Q v → Keeping Any (pass_one ops p a v)
      passes_one p (In_variable x) v h n i = (tt, (with_variable n.vars x (Some v) i.0 h, i.1, i.2))
      passes_one p (In_object j k) v h n i =
          stores k (At p (ops.whole n.mem (n.first + j) data_permissions)) v h
          (record n { mem = ops.zero n.mem (n.first + j) })
          (i.0, keeps.zero n.mem (n.first + j) i.1, i.2)

      passes : (p : Pos) (ps : List Parameter) (vs : List Value) → Each Q vs → Keeping Any (pass ops p ps vs)
      passes p [] vs h n i = (tt, i)
      passes p (a ∷ ps) [] h n i = (tt, i)
      passes p (a ∷ ps) (v ∷ vs) h n i =
          bind Any Any (pass_one ops p a v) (λ _. pass ops p ps vs) (passes_one p a v h.0)
          (λ _ k. passes p ps vs h.1) n i

      ends_at : (p : Pos) (e : At_end) → Keeping Q (at_end ops p e)
      ends_at p Gives_nothing n i = (keeps.numbers 0, i)
      ends_at p Gives_zero n i = (keeps.numbers 0, i)
      ends_at p (Lacks k) n i = answered Q p (ops.falls k) (keeps.falls k) n i

      turns_behind : (first : Bool) → Keeping Any (turn_behind first)
      turns_behind true n i = (tt, i)
      turns_behind false n i = turns n i

      ended : (ls : List ℕ) (m : M) (object : ℕ) → R m → R (end_locals ops m object ls)
      ended [] m object h = h
      ended (l ∷ ls) m object h = ended ls (ops.end m object) (suc object) (keeps.end m object h)

      closes : (f : Fun) → Keeping Any (close ops f)
      closes f n i = (tt, (i.0, ended f.objects n.mem n.first i.1, i.2))

      calls : (p : Pos) (fits : List Bool) (v : Value) → Keeping Any (called ops p fits v)
      calls p fits (value.Fun f) n i = go (slice_index_or fits f false)
        where
          go : (b : Bool) → Gives Any (compatible ops p f b n)
          go true = (tt, i)
          go false = tt
      calls p fits (value.Live object low high offset permissions) n i = tt
      calls p fits (value.Raw address upper) n i = tt
      calls p fits (value.Int j) n i = tt

      finishes : (e : Ex) (vs : List Value) (ps : List Place) → Each Q vs → OfPlaces Q ps →
          Keeping Q (finish ops funs e vs ps)
      finishes (Load k e) vs ps h i = loads k (first_place ps)
      finishes (Pointer_to p n e) vs ps h i = points p n (first_place ps) (place_is ps i)
      finishes (Convert p old new plain e) vs ps h i =
          asked Q p (λ m. convert_by ops m old new (first_of vs))
          (λ m _. converted m old new (first_of vs) (first_is vs h))
      finishes (Unary p sign k e) vs ps h i =
          asked Q p (λ m. sign_by ops no_world sign k m (first_of vs))
          (λ m _. signed_is sign k m (first_of vs) (first_is vs h))
      finishes (Not p k e) vs ps h i =
          bind Any Q (test ops p k (first_of vs)) (λ b. give (truth (not b))) (tests p k (first_of vs))
          (λ b _ t j. (truth_is (not b), j))
      finishes (Binary p o a b) vs ps h i =
          asked Q p (λ m. operate_by ops no_world o m (second_of vs) (first_of vs))
          (λ m _. operated o m (second_of vs) (first_of vs) (second_is vs h) (first_is vs h))
      finishes (Compare p o k a b) vs ps h i =
          let f : M → Result Bool Fault = λ m. compare_by ops m o k (second_of vs) (first_of vs) in
          bind Any Q (ask p f) (λ r. give (truth r)) (compares p f) (λ r _ t j. (truth_is r, j))
      finishes (Assign k a b) vs ps h i =
          bind Any Q (store ops k (first_place ps) (first_of vs)) (λ _. give (first_of vs))
          (stores k (first_place ps) (first_of vs) (first_is vs h)) (λ _ k t j. (first_is vs h, j))
      finishes (Copy p bytes unit a b) vs ps h i =
          bind Any Q (copy ops p bytes unit (first_place ps) (first_place (behind ps))) (λ _. give nothing)
          (copies p bytes unit (first_place ps) (first_place (behind ps))) (λ _ k t j. (keeps.numbers 0, j))
      finishes (Compound p o kind computed old a b) vs ps h i =
          bind Q Q _ _ (loads kind (first_place ps))
          (λ x k. bind Q Q _ _ (asked Q p (λ m. convert_by ops m kind computed x)
          (λ m _. converted m kind computed x k))
          (λ v l. bind Q Q _ _ (asked Q p (λ m. operate_by ops no_world o m v (first_of vs))
          (λ m _. operated o m v (first_of vs) l (first_is vs h)))
          (λ r q. bind Q Q _ _ (asked Q p (λ m. convert_by ops m computed kind r)
          (λ m _. converted m computed kind r q))
          (λ z s. bind Any Q _ _ (stores kind (first_place ps) z s) (λ _ w t j. (either old x z k s, j))))))
      finishes _ vs ps h i = λ n j. (keeps.numbers 0, j)

      -- ---- moments

      abbrev Holds : Moment M → Type 0
      Holds m = OfMoment Q R F m

      abbrev After : Act (Moment M) Ending → Type 0
      After (Goes t) = Holds t
      After (Puts b t) = Holds t
      After (Reads to) = (b : Option ℕ) → Holds (to b)
      After (Ends e) = Unit {0}

      value_on : (m : Moment M) (v : Value) → Q v → Holds m → Holds (with_value v m)
      value_on m v q h = ((q, h.0), h.1, h.2, h.3)

      place_on : (m : Moment M) (p : Place) → OfPlace Q p → Holds m → Holds (with_place p m)
      place_on m p q h = (h.0, (q, h.1), h.2, h.3)

      less : (m : Moment M) → Holds m → Holds (less_value m)
      less m h = (less_values m.values h.0, h.1, h.2, h.3)

      less_one : (m : Moment M) → Holds m → Holds (less_place m)
      less_one m h = (h.0, less_places m.places h.1, h.2, h.3)

      after_in : {A : Type 0} (P : A → Type 0) (r : Came M A) (m : Moment M)
          (l : A → Moment M → Act (Moment M) Ending) →
          Gives P r → ((x : A) (t : Now M) → P x → Stays t → After (l x (record m { now = t }))) → After (done_in m l r)
      after_in P (On x t) m l h f = f x t h.0 h.1
      after_in P (Over e) m l h f = tt

      -- a part, and then what follows it with the rest of the moment as it was
      after : {A : Type 0} (P : A → Type 0) (p : Part M A) → Keeping P p → (m : Moment M)
          (l : A → Moment M → Act (Moment M) Ending) → Holds m
          → ((x : A) (t : Now M) → P x → Holds (record m { now = t }) → After (l x (record m { now = t })))
          → After (doing p m l)
      after P p s m l h f =
          after_in P (p m.now) m l (s m.now h.3) (λ x t k i. f x t k (h.0, h.1, h.2, i))

      -- it gives a value
      then_value : (p : Part M Value) → Keeping Q p → (m : Moment M) → Holds m →
          After (doing p m (λ v t. Goes (with_value v t)))
      then_value p s m h = after Q p s m (λ v t. Goes (with_value v t)) h
          (λ v t k i. value_on (record m { now = t }) v k i)

      evaluated : (e : Ex) (m : Moment M) → Holds m → After (evaluate ops funs e m)
      evaluated (Number n) m h = value_on m _ (keeps.numbers n) h
      evaluated (Null n) m h = value_on m _ (keeps.nulls n) h
      evaluated (Variable p x) m h = value_on m _ (keeps.numbers 0) h
      evaluated (Local p n) m h = value_on m _ (keeps.numbers 0) h
      evaluated (Object p object permissions) m h = value_on m _ (keeps.numbers 0) h
      evaluated (Function p f) m h = value_on m _ (keeps.functions f) h
      evaluated _ m h = h

      designated : (e : Ex) (m : Moment M) → Holds m → After (designate ops funs e m)
      designated (Variable p x) m h = place_on m (In p x) tt h
      designated (Local p n) m h =
          place_on m (At p (ops.whole m.now.mem (m.now.first + n) data_permissions))
          (keeps.whole m.now.mem (m.now.first + n) data_permissions h.3.1) h
      designated (Object p object permissions) m h =
          place_on m (At p (ops.whole m.now.mem object permissions)) (keeps.whole m.now.mem object permissions h.3.1) h
      designated (Function p f) m h = place_on m (At p (value.Fun f)) (keeps.functions f) h
      designated (Deref p e) m h = h
      designated (Member p offset e) m h = h
      designated (Aggregate e) m h = h
      designated (Conditional p k c a b) m h = h
      designated (Comma a b) m h = h
      designated (Copy p bytes unit a b) m h = h
      designated _ m h = place_on m nowhere (keeps.nulls 0) h

      -- ---- calls

      opens : (first : Bool) (f : ℕ) (o : Option Fun) → slice_get funs f ≡ o → (vs : List Value) → Each Q vs →
          (m : Moment M) → Holds m → After (opened ops funs first f o vs m)
      opens first f None is vs q m h =
          after Any (turn_behind first) (turns_behind first) m (λ _ t. Goes (with_value nothing t)) h
          (λ _ t _ i. value_on (record m { now = t }) nothing (keeps.numbers 0) i)
      opens first f (Some g) is vs q m h =
          after_in Any (next_of (frame ops (ops.enter f m.now.frame) f g m.now) (λ _. pass ops g.name g.params vs))
          (record m { callers = caller_of m.now ∷ m.callers })
          (λ _ t. Goes (machine.two (Execute g.body) (Leave_function first g) t))
          (entered (ops.enter f m.now.frame) refl)
          (λ _ t _ i. (h.0, h.1, (h.3.0, h.3.2, h.2), i))
        where
          entered : (o : Option ℕ) → ops.enter f m.now.frame ≡ o
              → Gives Any (next_of (frame ops o f g m.now) (λ _. pass ops g.name g.params vs))
          entered None e = tt
          entered (Some at) e =
              let there = keeps.opens m.now.mem f at m.now.frame g is e h.3.2 h.3.1 in
              passes g.name g.params vs q _ (no_values g.vars, there.0, there.1)

      goes_back : (first : Bool) (g : Fun) (v : Value) (cs : List Caller) (m : Moment M) → m.callers ≡ cs →
          OfCallers Q R F cs → Q v → Holds m → After (closed ops funs first g v cs m)
      goes_back first g v [] m is c q h =
          after Any (λ n. next_of (close ops g n) (λ _. turn_behind first))
          (bind Any Any (close ops g) (λ _. turn_behind first) (closes g) (λ _ _. turns_behind first)) m
          (λ _ t. Goes (with_value v t)) h (λ _ t _ i. value_on (record m { now = t }) v q i)
      goes_back first g v (c ∷ cs) m is k q h =
          after_in Any (next_of (close ops g m.now) (λ _ n. next_of (back c n) (λ _. turn_behind first)))
          (record m { callers = cs }) (λ _ t. Goes (with_value v t))
          (turns_behind first (record m.now {
            mem = end_locals ops m.now.mem m.now.first g.objects;
            vars = c.vars;
            first = c.first;
            frame = c.frame;
          })
          (k.0, ended g.objects m.now.mem m.now.first h.3.1, k.1))
          (λ _ t _ i. ((q, h.0), h.1, k.2, i))

      called_on : (p : Pos) (fits : List Bool) (count : ℕ) (m : Moment M) → Holds m →
          After (call ops funs p fits count m)
      called_on p fits count m h =
          let v = first_of (beyond count m.values) in
          after Any (λ n. next_of (called ops p fits v n) (λ f t. next_of (turn t) (λ _. give f)))
          (bind Any Any (called ops p fits v) (λ f t. next_of (turn t) (λ _. give f)) (calls p fits v)
          (λ f _. bind Any Any turn (λ _. give f) turns (λ _ _ t j. (tt, j))))
          (record m { values = behind (beyond count m.values) })
          (λ f t. opened ops funs false f (slice_get funs f) (turned count m.values []) t)
          (less_values (beyond count m.values) (beyond_each count m.values h.0), h.1, h.2, h.3)
          (λ f t _ i. opens false f (slice_get funs f) refl (turned count m.values [])
          (turned_each count m.values [] h.0 tt) (record m { values = behind (beyond count m.values); now = t }) i)

      served : (p : Pos) (service : Service) (vs : List Value) → Each Q vs → (m : Moment M) → Holds m →
          After (serve ops funs p service vs m)
      served p Put_char vs q m h = value_on m _ (keeps.numbers _) h
      served p Get_char vs q m h = λ b. value_on m (byte_or_end b) (end_is b) h
      served p Malloc vs q m h = then_value (allocate ops p (number_of (first_of vs))) (allocates p _) m h
      served p Exit vs q m h = tt
      served p Address vs q m h =
          let f : M → Result Value Fault = λ s. on_ok ops (λ a. Ok (value.Int a)) (ops.address s (first_of vs)) in
          then_value (ask p f) (asked Q p f (λ s _. ok_then Q _ (ops.address s (first_of vs)) keeps.numbers)) m h
      served p (Bounds exact) vs q m h =
          let f : M → Result Value Fault = λ s. ops.narrow s (first_of vs) (number_of (second_of vs)) exact in
          then_value (ask p f) (asked Q p f (λ s _. keeps.narrow s (first_of vs) _ exact (first_is vs q))) m h
      served p (Works work) vs q m h =
          let f : M → Result Value Fault = λ s. ops.work s work (first_of vs) (second_of vs) in
          then_value (ask p f) (asked Q p f (λ s _. keeps.work s work (first_of vs) _ (first_is vs q))) m h

      values_left : (e : Ex) (vs : List Value) → Each Q vs → Each Q (values_behind ops funs e vs)
      values_left (Convert p old new plain e) vs h = less_values vs h
      values_left (Discard e) vs h = less_values vs h
      values_left (Unary p sign k e) vs h = less_values vs h
      values_left (Not p k e) vs h = less_values vs h
      values_left (Binary p o a b) vs h = less_values (behind vs) (less_values vs h)
      values_left (Compare p o k a b) vs h = less_values (behind vs) (less_values vs h)
      values_left (Assign k a b) vs h = less_values vs h
      values_left (Compound p o kind computed old a b) vs h = less_values vs h
      values_left (Deref p e) vs h = less_values vs h
      values_left _ vs h = h

      places_left : (e : Ex) (ps : List Place) → OfPlaces Q ps → OfPlaces Q (places_behind ops funs e ps)
      places_left (Load k e) ps h = less_places ps h
      places_left (Aggregate e) ps h = less_places ps h
      places_left (Pointer_to p n e) ps h = less_places ps h
      places_left (Assign k a b) ps h = less_places ps h
      places_left (Copy p bytes unit a b) ps h = less_places (behind ps) (less_places ps h)
      places_left (Compound p o kind computed old a b) ps h = less_places ps h
      places_left (Member p offset e) ps h = less_places ps h
      places_left _ ps h = h

      finished_on : (e : Ex) (m : Moment M) → Holds m → After (finished ops funs e m)
      finished_on e m h =
          then_value (finish ops funs e m.values m.places) (finishes e m.values m.places h.0 h.1)
          (record m { values = values_behind ops funs e m.values; places = places_behind ops funs e m.places })
          (values_left e m.values h.0, places_left e m.places h.1, h.2, h.3)

      item_finished : (e : Ex) (m : Moment M) → Holds m → After (finish_item ops funs e m)
      item_finished (Call p fits e args) m h = called_on p fits (count_of args) m h
      item_finished (Library p service args) m h =
          served p service (turned (count_of args) m.values []) (turned_each (count_of args) m.values [] h.0 tt)
          (record m { values = beyond (count_of args) m.values })
          (beyond_each (count_of args) m.values h.0, h.1, h.2, h.3)
      item_finished e m h = finished_on e m h

      place_finished : (e : Ex) (m : Moment M) → Holds m → After (finish_place ops funs e m)
      place_finished (Deref p e) m h =
          place_on (less_value m) (At p (first_of m.values)) (first_is m.values h.0) (less m h)
      place_finished (Member p offset e) m h =
          let v = capability_of (first_place m.places) in
          after Q (ask p (λ s. ops.offset s v offset))
          (asked Q p (λ s. ops.offset s v offset)
          (λ s _. keeps.offset s v offset (capability_is (first_place m.places) (place_is m.places h.1))))
          (less_place m) (λ v t. Goes (with_place (At p v) t)) (less_one m h)
          (λ v t k i. place_on (record m { places = behind m.places; now = t }) (At p v) k i)
      place_finished (Copy p bytes unit a b) m h =
          let from = first_place m.places in
          let to = first_place (behind m.places) in
          after Any (copy ops p bytes unit from to) (copies p bytes unit from to) (less_place (less_place m))
          (λ _ t. Goes (with_place to t)) (less_one (less_place m) (less_one m h))
          (λ _ t _ i. place_on (record m { places = behind (behind m.places); now = t }) to
          (place_is (behind m.places) (less_places m.places h.1)) i)
      place_finished _ m h = place_on m nowhere (keeps.nulls 0) h

      -- ---- choices

      chosen_on : (e : Ex) (c : Bool) (m : Moment M) → Holds m → Holds (chosen ops funs e c m)
      chosen_on (And p j k a b) true m h = h
      chosen_on (And p j k a b) false m h = value_on m _ (keeps.numbers 0) h
      chosen_on (Or p j k a b) true m h = value_on m _ (keeps.numbers 1) h
      chosen_on (Or p j k a b) false m h = h
      chosen_on (Conditional p k e a b) true m h = h
      chosen_on (Conditional p k e a b) false m h = h
      chosen_on _ c m h = value_on m _ (keeps.numbers 0) h

      -- the value on top is tested
      tested_then : (p : Pos) (k : Kind) (m : Moment M) (l : Bool → Moment M → Act (Moment M) Ending) → Holds m
          → ((c : Bool) (t : Moment M) → Holds t → After (l c t))
          → After (doing (test ops p k (first_of m.values)) (less_value m) l)
      tested_then p k m l h f =
          after Any (test ops p k (first_of m.values)) (tests p k (first_of m.values)) (less_value m) l (less m h)
          (λ c t _ i. f c (record m { values = behind m.values; now = t }) i)

      choosing : (e : Ex) (m : Moment M) → Holds m → After (choose_item ops funs e m)
      choosing (And p j k a b) m h =
          tested_then p j m (λ c t. Goes (chosen ops funs (And p j k a b) c t)) h (chosen_on (And p j k a b))
      choosing (Or p j k a b) m h =
          tested_then p j m (λ c t. Goes (chosen ops funs (Or p j k a b) c t)) h (chosen_on (Or p j k a b))
      choosing (Conditional p k e a b) m h =
          tested_then p k m (λ c t. Goes (chosen ops funs (Conditional p k e a b) c t)) h
          (chosen_on (Conditional p k e a b))
      choosing _ m h = value_on (less_value m) nothing (keeps.numbers 0) (less m h)

      either_work : (i j : Item) (c : Bool) (m : Moment M) → Holds m
          → Holds (if c then machine.one i m else machine.one j m)
      either_work i j true m h = h
      either_work i j false m h = h

      choosing_place : (e : Ex) (m : Moment M) → Holds m → After (choose_place ops funs e m)
      choosing_place (Conditional p k e a b) m h =
          tested_then p k m (λ c t. Goes (if c then machine.one (Designate a) t else machine.one (Designate b) t)) h
          (either_work (Designate a) (Designate b))
      choosing_place _ m h = place_on (less_value m) nowhere (keeps.nulls 0) (less m h)

      truth_on : (c : Bool) (m : Moment M) → Holds m → Holds (with_value (truth c) m)
      truth_on c m h = value_on m (truth c) (truth_is c) h

      deciding : (e : Ex) (m : Moment M) → Holds m → After (decide ops funs e m)
      deciding (And p j k a b) m h = tested_then p k m (λ c t. Goes (with_value (truth c) t)) h truth_on
      deciding (Or p j k a b) m h = tested_then p k m (λ c t. Goes (with_value (truth c) t)) h truth_on
      deciding _ m h = value_on (less_value m) nothing (keeps.numbers 0) (less m h)

      -- ---- statements

      abbrev OfFlow : Flow → Type 0
      OfFlow (Returns v) = Q v
      OfFlow flow.Goes = Unit {0}
      OfFlow Breaks = Unit {0}
      OfFlow Continues = Unit {0}

      leaving : (f : Flow) (ds : List Declared) (is : List Item) (m : Moment M) → Holds m
          → ((t : Moment M) → Holds t → After (jumped ops funs f is t))
          → After (doing (leave ops ds) m (λ _ t. jumped ops funs f is t))
      leaving f ds is m h go =
          after Any (leave ops ds) (leaves ds) m (λ _ t. jumped ops funs f is t) h
          (λ _ t _ i. go (record m { now = t }) i)

      jumps : (f : Flow) (is : List Item) (m : Moment M) → OfFlow f → Holds m → After (jumped ops funs f is m)
      jumps flow.Goes is m q h = h
      jumps Breaks [] m q h = h
      jumps Continues [] m q h = h
      jumps (Returns v) [] m q h = h
      jumps Breaks (Leave ds ∷ is) m q h = leaving Breaks ds is m h (λ t i. jumps Breaks is t q i)
      jumps Continues (Leave ds ∷ is) m q h = leaving Continues ds is m h (λ t i. jumps Continues is t q i)
      jumps (Returns v) (Leave ds ∷ is) m q h = leaving (Returns v) ds is m h (λ t i. jumps (Returns v) is t q i)
      jumps Breaks (Again l ∷ is) m q h = h
      jumps Breaks (Switch_end ∷ is) m q h = h
      jumps Continues (Again l ∷ is) m q h = h
      jumps Breaks (Leave_function first g ∷ is) m q h = h
      jumps Continues (Leave_function first g ∷ is) m q h = h
      jumps (Returns v) (Leave_function first g ∷ is) m q h =
          goes_back first g v m.callers (record m { work = is }) refl h.2 q h
      jumps Breaks (i ∷ is) m q h = jumps Breaks is m q h
      jumps Continues (i ∷ is) m q h = jumps Continues is m q h
      jumps (Returns v) (i ∷ is) m q h = jumps (Returns v) is m q h

      executes : (a : St) (m : Moment M) → Holds m → After (execute ops funs a m)
      executes (Block ds ss) m h =
          after Any (enter ops ds) (enters ds) m (λ _ t. Goes (machine.two (Rest ss) (Leave ds) t)) h (λ _ t _ i. i)
      executes (For ds first t u b) m h =
          after Any (enter ops ds) (enters ds) m
          (λ _ r. Goes (machine.three (Rest first) (Test (Before t u b)) (Leave ds) r)) h (λ _ t _ i. i)
      executes Break m h = jumps Breaks m.work m tt h
      executes Continue m h = jumps Continues m.work m tt h
      executes (Return None) m h = jumps (Returns nothing) m.work m (keeps.numbers 0) h
      executes (Return (Some e)) m h = h
      executes _ m h = h

      proceeds : (ss : Sts) (m : Moment M) → Holds m → After (proceed ops funs ss m)
      proceeds End m h = h
      proceeds (Seq a ss) m h = h

      initializes : (a : St) (m : Moment M) → Holds m → After (initialize ops funs a m)
      initializes (Give x e) m h =
          after Any (set_variable x (Some (first_of m.values)))
          (λ n i. (tt, (with_variable n.vars x (Some (first_of m.values)) i.0 (first_is m.values h.0), i.1, i.2)))
          (less_value m) (λ _ t. Goes t) (less m h) (λ _ t _ i. i)
      initializes (Init p local offset k e) m h =
          after Any (λ n. next_of (part_of_local ops p local offset n) (λ to. store ops k to (first_of m.values)))
          (bind (OfPlace Q) Any (part_of_local ops p local offset) (λ to. store ops k to (first_of m.values))
          (local_part p local offset) (λ to _. stores k to (first_of m.values) (first_is m.values h.0)))
          (less_value m) (λ _ t. Goes t) (less m h) (λ _ t _ i. i)
      initializes (Fill p local offset bytes unit e) m h =
          let from = first_place m.places in
          after Any (λ n. next_of (part_of_local ops p local offset n) (λ to. copy ops p bytes unit from to))
          (bind (OfPlace Q) Any (part_of_local ops p local offset) (λ to. copy ops p bytes unit from to)
          (local_part p local offset) (λ to _. copies p bytes unit from to))
          (less_place m) (λ _ t. Goes t) (less_one m h) (λ _ t _ i. i)
      initializes _ m h = h

      branches : (a : St) (m : Moment M) → Holds m → After (branch ops funs a m)
      branches (If p k e a b) m h =
          tested_then p k m (λ c t. Goes (if c then machine.one (Execute a) t else machine.one (Execute b) t)) h
          (either_work (Execute a) (Execute b))
      branches _ m h = less m h

      at_tests : (l : Loop) (m : Moment M) → Holds m → After (at_test ops funs l m)
      at_tests (Before None u b) m h = h
      at_tests (Before (Some t) u b) m h = h
      at_tests (Behind p k e b) m h = h

      turns_to : (is : List Item) (m : Moment M) → Holds m → After (turned_to ops funs is m)
      turns_to is m h = after Any turn turns m (λ _ t. Goes (record t { work = is })) h (λ _ t _ i. i)

      rounds : (t : Pos × Kind × Ex) (u : Option Ex) (b : St) (c : Bool) (m : Moment M) → Holds m
          → Holds (if c then machine.two (Execute b) (Again (Before (Some t) u b)) m else m)
      rounds t u b true m h = h
      rounds t u b false m h = h

      repeats : (p : Pos) (k : Kind) (e : Ex) (b : St) (c : Bool) (m : Moment M) → Holds m
          → After (if c then turned_to ops funs (Execute b ∷ Again (Behind p k e b) ∷ m.work) m else Goes m)
      repeats p k e b true m h = turns_to (Execute b ∷ Again (Behind p k e b) ∷ m.work) m h
      repeats p k e b false m h = h

      is_tested : (l : Loop) (m : Moment M) → Holds m → After (tested ops funs l m)
      is_tested (Before None u b) m h = less m h
      is_tested (Before (Some t) u b) m h =
          tested_then t.0 t.1 m (λ c r. Goes (if c then machine.two (Execute b) (Again (Before (Some t) u b)) r else r))
          h
          (rounds t u b)
      is_tested (Behind p k e b) m h =
          tested_then p k m
          (λ c r. if c then turned_to ops funs (Execute b ∷ Again (Behind p k e b) ∷ r.work) r else Goes r) h
          (repeats p k e b)

      goes_again : (l : Loop) (m : Moment M) → Holds m → After (again ops funs l m)
      goes_again (Before t None b) m h = turns_to (Test (Before t None b) ∷ m.work) m h
      goes_again (Before t (Some e) b) m h = h
      goes_again (Behind p k e b) m h = h

      to_its_label : (ss : Sts) (ds : List Declared) (o : Option ℕ) (m : Moment M) → Holds m
          → Holds (to_label ops funs ss ds o m)
      to_its_label ss ds None m h = h
      to_its_label ss ds (Some j) m h = h

      labels : (a : St) (m : Moment M) → Holds m → After (choose_label ops funs a m)
      labels (Switch p k e ds ls ss) m h =
          let v = first_of m.values in
          after Any (λ n. next_of (enter ops ds n) (λ _. find_label ops p k v ls (default_of ls)))
          (bind Any Any (enter ops ds) (λ _. find_label ops p k v ls (default_of ls)) (enters ds)
          (λ _ _. finds p k v ls (default_of ls)))
          (less_value m) (λ o t. Goes (to_label ops funs ss ds o t)) (less m h)
          (λ o t _ i. to_its_label ss ds o (record m { values = behind m.values; now = t }) i)
      labels _ m h = less m h

      -- ---- acts

      acts_on : (i : Item) (m : Moment M) → Holds m → After (act_on ops funs i m)
      acts_on (Evaluate e) m h = evaluated e m h
      acts_on (Designate e) m h = designated e m h
      acts_on Drop m h = less m h
      acts_on (Finish e) m h = item_finished e m h
      acts_on (Finish_place e) m h = place_finished e m h
      acts_on (Choose e) m h = choosing e m h
      acts_on (Choose_place e) m h = choosing_place e m h
      acts_on (Decide e) m h = deciding e m h
      acts_on (Begin f) m h = opens true f (slice_get funs f) refl [] tt m h
      acts_on (Leave_function first g) m h =
          after Q (at_end ops g.name g.at_end) (ends_at g.name g.at_end) m
          (λ v t. closed ops funs first g v t.callers t) h
          (λ v t q i. goes_back first g v m.callers (record m { now = t }) refl i.2 q i)
      acts_on (Execute a) m h = executes a m h
      acts_on (Rest ss) m h = proceeds ss m h
      acts_on (Initialize a) m h = initializes a m h
      acts_on (Branch a) m h = branches a m h
      acts_on (Test l) m h = at_tests l m h
      acts_on (Tested l) m h = is_tested l m h
      acts_on (Again l) m h = goes_again l m h
      acts_on (Turn l) m h = turns_to (Test l ∷ m.work) m h
      acts_on (Choose_label a) m h = labels a m h
      acts_on Switch_end m h = h
      acts_on (Leave ds) m h = after Any (leave ops ds) (leaves ds) m (λ _ t. Goes t) h (λ _ t _ i. i)
      acts_on Give_back m h =
          jumps (Returns (first_of m.values)) m.work (less_value m) (first_is m.values h.0) (less m h)

      acts : (m : Moment M) → Holds m → After (act ops funs m)
      unfolding act
      acts m h = by m.work
        where
          by : (is : List Item) → After (act_of ops funs is m)
          by [] = tt
          by (j ∷ is) = acts_on j (record m { work = is }) h

      -- ---- moments that are reached

      led : (a : Act (Moment M) Ending) (t : Moment M) → After a → LeadsTo a t → Holds t
      led (Goes s) t h e = subst Holds (sym e) h
      led (Puts b s) t h e = subst Holds (sym e) h
      led (Reads to) t h e = subst Holds (sym e.1) (h e.0)
      led (Ends e) t h q = absurd q

      leads : (from : Moment M) (n : ℕ) (t : Moment M) → Holds from → Leads (act ops funs) from n t → Holds t
      leads from zero t h e = subst Holds (sym e) h
      leads from (suc n) t h r = led (act ops funs r.0) t (acts r.0 (leads from n r.0 h r.1)) r.2

      pub reached : (from to : Moment M) → OfMoment Q R F from → IsReached (act ops funs) from to → OfMoment Q R F to
      reached from to h r = leads from r.0 to h r.1
