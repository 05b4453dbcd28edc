-- Each part of the machine does what the word of the meaning does that it is named for.
use Rattle.std.proofs.Common.{◌≡◌, ℕ, zero, suc, ◌+◌, ◌/◌, Bool, true, false, List, [], ◌∷◌, Option, Some, None, Result}
use Rattle.std.proofs.Common.{Ok, Err, refl, ◌∙◌}
use Rattle.std.specs.Prelude.{slice_get, slice_index_or}
use Rattle.ck_base.specs.World.{World, Done}
use Rattle.ck_base.specs.declared.positions.Pos.{Pos}
use Rattle.ck_int.specs.declared.kinds.CmpOp.TheVariants.{Eq}
use Rattle.obj_mem.specs.Values.{Value, Int, Live, Fun, Raw}
use Rattle.obj_mem.specs.declared.ending.Ending.{Ending}
use Rattle.obj_mem.specs.declared.ending.Fault.{Fault}
use Rattle.obj_mem.specs.declared.ending.UnitFault.{UnitFault}
use Rattle.cheri_c_sem.specs.Kinds.{Kind, bytes_of, read_as, nothing}
use Rattle.cheri_c_sem.specs.Operations.{Operations, compare_by, is_true}
use Rattle.cheri_c_sem.specs.Steps.{State, Fate, Then, ◌>>=◌, ◌>>◌, give, ends, answer, unit_answer, ask, choose}
use Rattle.cheri_c_sem.specs.Steps.{turn_from, turn, set_memory, change_memory, set_variable}
use Rattle.cheri_c_sem.specs.Tree.{Narrowing, Declared, Simple, Objects, Label, Case, Default, Parameter, In_variable}
use Rattle.cheri_c_sem.specs.Tree.{In_object, At_end, Gives_nothing, Gives_zero, Lacks}
use Rattle.cheri_c_sem.specs.Tree as tree
use Rattle.cheri_c_sem.specs.Meaning.{Place, In, At, position_of, capability_of, further, given, load, store}
use Rattle.cheri_c_sem.specs.Meaning.{copy_units, copy, point_to, test, allocate, compatible, called}
use Rattle.cheri_c_sem.specs.Statements.{label_value, enter_one, enter, leave_one, leave, find_label, part_of_local}
use Rattle.cheri_c_sem.specs.Calls.{frame, pass_one, pass, at_end, close}
use Rattle.mean_steps.specs.Parts.{Now, Came, On, Over, Part, next_of}
use Rattle.mean_steps.specs.Parts as part

-- the state apart from what was done with the outside, and with it
abbrev pub now_of : {M : Type 0} → State M → Now M
now_of s = record { vars = s.vars; first = s.first; mem = s.mem; frame = s.frame; left = s.left }

abbrev pub state_of : {M : Type 0} → Now M → Done → State M
state_of n d = record { vars = n.vars; first = n.first; mem = n.mem; frame = n.frame; left = n.left; done = d }

-- what follows a part
abbrev pub follow : {M A : Type 0} → Came M A → Done → (A → State M → Fate) → Fate
follow (On x n) d k = k x (state_of n d)
follow (Over e) d k = record { done = d; ending = e }

-- a word of the meaning does what a part does
pub record Alike {M A : Type 0} (c : Then M A) (p : Part M A) : Type 0 where
  pub at : (n : Now M) (d : Done) (k : A → State M → Fate) → c (state_of n d) k ≡ follow (p n) d k

module _ {M : Type 0} where
  pub alike_give : {A : Type 0} (x : A) → Alike {M = M} (give x) (part.give x)
  alike_give x = record { at = λ n d k. refl }

  pub alike_ends : {A : Type 0} (e : Ending) → Alike {M = M} {A = A} (ends e) (part.ends e)
  alike_ends e = record { at = λ n d k. refl }

  bind_at : {A B : Type 0} (f : A → Then M B) (g : A → Part M B) → ((x : A) → Alike (f x) (g x)) →
      (r : Came M A) (d : Done) (k : B → State M → Fate) → follow r d (λ x t. f x t k) ≡ follow (next_of r g) d k
  bind_at f g h (On x n) d k = (h x).at n d k
  bind_at f g h (Over e) d k = refl

  pub alike_bind : {A B : Type 0} (c : Then M A) (p : Part M A) (f : A → Then M B) (g : A → Part M B) → Alike c p →
      ((x : A) → Alike (f x) (g x)) → Alike (c >>= f) (λ n. next_of (p n) g)
  alike_bind c p f g h i = record { at = λ n d k. h.at n d (λ x t. f x t k) ∙ bind_at f g i (p n) d k }

  pub alike_then : {A B : Type 0} (c : Then M A) (p : Part M A) (f : Then M B) (g : Part M B) → Alike c p → Alike f g →
      Alike (c >> f) (λ n. next_of (p n) (λ _. g))
  alike_then c p f g h i = record {
    at = λ n d k. h.at n d (λ x t. f t k)
        ∙ bind_at (λ x. f) (λ x. g) (λ x. i) (p n) d k;
  }

  pub alike_answer : {A : Type 0} (pos : Pos) (r : Result A Fault) → Alike {M = M} (answer pos r) (part.answer pos r)
  alike_answer pos (Ok x) = alike_give x
  alike_answer pos (Err f) = record { at = λ n d k. refl }

  pub alike_unit_answer : {A : Type 0} (from to : Pos) (r : Result A UnitFault) →
      Alike {M = M} (unit_answer from to r) (part.unit_answer from to r)
  alike_unit_answer from to (Ok x) = alike_give x
  alike_unit_answer from to (Err f) = record { at = λ n d k. refl }

  turn_at : (left : ℕ) (n : Now M) (d : Done) (k : Unit {0} → State M → Fate) →
      turn_from left (state_of n d) k ≡ follow (part.turn_from left n) d k
  turn_at zero n d k = refl
  turn_at (suc j) n d k = refl

  pub alike_turn : Alike {M = M} turn part.turn
  alike_turn = record { at = λ n d k. turn_at n.left n d k }

  pub alike_choose : {A : Type 0} (v : Bool) (a b : Then M A) (p q : Part M A) → Alike a p → Alike b q →
      Alike (choose v a b) (part.choose v p q)
  alike_choose true a b p q h i = h
  alike_choose false a b p q h i = i

  pub alike_ask : {A : Type 0} (pos : Pos) (f : M → Result A Fault) → Alike (ask pos f) (part.ask pos f)
  alike_ask pos f = record { at = λ n d k. (alike_answer pos (f n.mem)).at n d k }

  pub alike_set_memory : (m : M) → Alike (set_memory m) (part.set_memory m)
  alike_set_memory m = record { at = λ n d k. refl }

  pub alike_change_memory : (f : M → M) → Alike (change_memory f) (part.change_memory f)
  alike_change_memory f = record { at = λ n d k. refl }

  pub alike_set_variable : (x : ℕ) (v : Option Value) → Alike {M = M} (set_variable x v) (part.set_variable x v)
  alike_set_variable x v = record { at = λ n d k. refl }

module _ {M : Type 0} (ops : Operations M) (w : World) where
  alike_given : (p : Pos) (k : Kind) (o : Option (Option Value)) → Alike (given ops w p k o) (part.given ops p k o)
  alike_given p k (Some (Some v)) = alike_give v
  alike_given p k (Some None) = alike_answer p (ops.unset k)
  alike_given p k None = alike_answer p (ops.unset k)

  pub alike_load : (k : Kind) (p : Place) → Alike (load ops w k p) (part.load ops k p)
  alike_load k (In p x) = record { at = λ n d l. (alike_given p k (slice_get n.vars x)).at n d l }
  alike_load k (At p v) = alike_bind _ _ _ _ (alike_ask p (λ m. ops.load m v (bytes_of k)))
      (λ r. alike_give (read_as k r))

  pub alike_store : (k : Kind) (p : Place) (v : Value) → Alike (store ops w k p v) (part.store ops k p v)
  alike_store k (In p x) v = alike_set_variable x (Some v)
  alike_store k (At p to) v =
      alike_bind _ _ _ _ (alike_ask p (λ m. ops.store m to (bytes_of k) v)) (λ m. alike_set_memory m)

  alike_copy_units : (j unit at : ℕ) (from to : Place) →
      Alike (copy_units ops w j unit at from to) (part.copy_units ops j unit at from to)
  alike_copy_units zero unit at from to = alike_give tt
  alike_copy_units (suc j) unit at from to =
      alike_bind (λ s. unit_answer (position_of from) (position_of to)
      (ops.copy_unit s.mem (further (capability_of from) at) (further (capability_of to) at) unit) s)
      (λ n. part.unit_answer (position_of from) (position_of to)
      (ops.copy_unit n.mem (further (capability_of from) at) (further (capability_of to) at) unit) n) _ _
      (record {
        at = λ n d k. (alike_unit_answer (position_of from) (position_of to)
            (ops.copy_unit n.mem (further (capability_of from) at) (further (capability_of to) at) unit)).at n d k;
      })
      (λ m. alike_then _ _ _ _ (alike_set_memory m) (alike_copy_units j unit (at + unit) from to))

  pub alike_copy : (p : Pos) (bytes unit : ℕ) (from to : Place) →
      Alike (copy ops w p bytes unit from to) (part.copy ops p bytes unit from to)
  alike_copy p bytes unit from to =
      alike_then _ _ _ _ (alike_answer p (ops.overlap (capability_of from) (capability_of to) bytes))
      (alike_copy_units (bytes / unit) unit 0 from to)

  pub alike_point_to : (p : Pos) (o : Option Narrowing) (to : Place) →
      Alike (point_to ops w p o to) (part.point_to ops p o to)
  alike_point_to p None to = alike_give (capability_of to)
  alike_point_to p (Some n) to =
      alike_bind _ _ _ _ (alike_ask p (λ m. ops.narrow m (capability_of to) n.owned true))
      (λ r. alike_then _ _ _ _ (alike_change_memory (λ m. ops.note_member m r n.own)) (alike_give r))

  pub alike_part_of_local : (p : Pos) (local offset : ℕ) →
      Alike (part_of_local ops w p local offset) (part.part_of_local ops p local offset)
  alike_part_of_local p local offset = record {
    at = λ n d k. (alike_bind _ _ _ _ (alike_ask p (λ m. ops.offset m (ops.whole m (n.first + local) 125) offset))
        (λ v. alike_give (At p v))).at n d k;
  }

  pub alike_test : (p : Pos) (k : Kind) (v : Value) → Alike (test ops w p k v) (part.test ops p k v)
  alike_test p k v = alike_ask p (λ m. is_true ops m k v)

  pub alike_allocate : (p : Pos) (j : ℕ) → Alike (allocate ops w p j) (part.allocate ops p j)
  alike_allocate p j = alike_bind _ _ _ _ (alike_ask p (λ m. ops.allocate m j))
      (λ r. alike_then _ _ _ _ (alike_set_memory r.1) (alike_give r.0))

  alike_enter_one : (x : Declared) → Alike (enter_one ops w x) (part.enter_one ops x)
  alike_enter_one (Simple x) = alike_set_variable x None
  alike_enter_one (Objects j) = record { at = λ n d k. refl }

  pub alike_enter : (ds : List Declared) → Alike (enter ops w ds) (part.enter ops ds)
  alike_enter [] = alike_give tt
  alike_enter (x ∷ ds) = alike_then _ _ _ _ (alike_enter_one x) (alike_enter ds)

  alike_leave_one : (x : Declared) → Alike (leave_one ops w x) (part.leave_one ops x)
  alike_leave_one (Simple x) = alike_give tt
  alike_leave_one (Objects j) = record { at = λ n d k. refl }

  pub alike_leave : (ds : List Declared) → Alike (leave ops w ds) (part.leave ops ds)
  alike_leave [] = alike_give tt
  alike_leave (x ∷ ds) = alike_then _ _ _ _ (alike_leave_one x) (alike_leave ds)

  pub alike_find_label : (p : Pos) (k : Kind) (v : Value) (ls : List Label) (o : Option ℕ) →
      Alike (find_label ops w p k v ls o) (part.find_label ops p k v ls o)
  alike_find_label p k v [] o = alike_give o
  alike_find_label p k v (Default j ∷ ls) o = alike_find_label p k v ls o
  alike_find_label p k v (Case c j ∷ ls) o =
      alike_bind _ _ _ _ (alike_ask p (λ m. compare_by ops m Eq k v (label_value k c)))
      (λ same. alike_choose same _ _ _ _ (alike_give (Some j)) (alike_find_label p k v ls o))

  alike_compatible : (p : Pos) (f : ℕ) (fits : Bool) → Alike (compatible ops w p f fits) (part.compatible ops p f fits)
  alike_compatible p f true = alike_give f
  alike_compatible p f false = alike_ends _

  pub alike_called : (p : Pos) (fits : List Bool) (v : Value) → Alike (called ops w p fits v) (part.called ops p fits v)
  alike_called p fits (Fun f) = alike_compatible p f (slice_index_or fits f false)
  alike_called p fits (Live object low high offset permissions) = alike_ends _
  alike_called p fits (Raw address upper) = alike_ends _
  alike_called p fits (Int j) = alike_ends _

  pub alike_frame : (o : Option ℕ) (j : ℕ) (f : tree.Fun) → Alike (frame ops w o j f) (part.frame ops o j f)
  alike_frame None j f = alike_ends _
  alike_frame (Some address) j f = record { at = λ n d k. refl }

  alike_pass_one : (p : Pos) (a : Parameter) (v : Value) → Alike (pass_one ops w p a v) (part.pass_one ops p a v)
  alike_pass_one p (In_variable x) v = alike_set_variable x (Some v)
  alike_pass_one p (In_object j k) v = record {
    at = λ n d l. (alike_then _ _ _ _ (alike_change_memory (λ m. ops.zero m (n.first + j)))
        (alike_store k (At p (ops.whole n.mem (n.first + j) 125)) v)).at n d l;
  }

  pub alike_pass : (p : Pos) (ps : List Parameter) (vs : List Value) →
      Alike (pass ops w p ps vs) (part.pass ops p ps vs)
  alike_pass p [] vs = alike_give tt
  alike_pass p (a ∷ ps) [] = alike_give tt
  alike_pass p (a ∷ ps) (v ∷ vs) = alike_then _ _ _ _ (alike_pass_one p a v) (alike_pass p ps vs)

  pub alike_at_end : (p : Pos) (e : At_end) → Alike (at_end ops w p e) (part.at_end ops p e)
  alike_at_end p Gives_nothing = alike_give nothing
  alike_at_end p Gives_zero = alike_give (Int 0)
  alike_at_end p (Lacks k) = alike_answer p (ops.falls k)

  pub alike_close : (f : tree.Fun) → Alike (close ops w f) (part.close ops f)
  alike_close f = record { at = λ n d k. refl }
