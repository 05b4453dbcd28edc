-- Operations whose operands are taken are those of the machine.
use Rattle.std.proofs.Common.{◌≡◌, ℕ, ◌∷◌, Bool, true, false, List, Option, Some, None, Result, Ok, Err, refl, sym, ap}
use Rattle.std.proofs.Common.{subst, ◌∙◌}
use Rattle.std.specs.Prelude.{map, not, is_some, ◌&&◌, ◌||◌, if◌then◌else◌}
use Rattle.ck_base.specs.Runs.{Act, Goes, Ends}
use Rattle.ck_base.specs.declared.positions.Pos.{Pos}
use Rattle.ck_int.specs.declared.kinds.CmpOp.{CmpOp}
use Rattle.c_tree.specs.declared.typed.CType.{CType}
use Rattle.c_tree.specs.declared.typed.Typed.{Typed}
use Rattle.c_tree.specs.declared.typed.UnaryOp.{UnaryOp}
use Rattle.c_tree.specs.declared.typed.UnaryOp.TheVariants as unary
use Rattle.c_tree.specs.declared.typed.VarDef.{VarDef}
use Rattle.obj_mem.specs.declared.ending.Ending.{Ending}
use Rattle.obj_mem.specs.declared.ending.Fault.{Fault}
use Rattle.obj_mem.specs.declared.value.Value as public
use Rattle.obj_mem.specs.Values.{Value, value_of}
use Rattle.cheri_c_sem.specs.Expressions.{conversion, conversion_by, sign_of}
use Rattle.cheri_c_sem.specs.Kinds.{Kind, nothing, truth}
use Rattle.cheri_c_sem.specs.Meaning.{Place, first_of, second_of, operate_by}
use Rattle.cheri_c_sem.specs.Modes.{Store}
use Rattle.cheri_c_sem.specs.Operations.{Operations, compare_by, convert_by, is_true, on_ok}
use Rattle.cheri_c_sem.specs.Tree.{Ex, Operation, Aggregate, Assign, Binary, Compare, Copy, Compound, Discard, Load}
use Rattle.cheri_c_sem.specs.Tree.{Fun, Narrowing, Pointer_to}
use Rattle.cheri_c_sem.specs.Types.{is_void, kind_or_int, scalar_of}
use Rattle.mean_operations.specs.Views.{unary_by}
use Rattle.mean_steps.specs.Machine.{Moment, behind, first_place, less_value, less_place, with_value, finish_item}
use Rattle.mean_steps.specs.Machine.{no_world}
use Rattle.mean_steps.specs.Parts.{Now, Came, On, Over, answer, copy, give, load, next_of, point_to, store}
use Rattle.mean_run.specs.Changes.{changed_by, changes}
use Rattle.mean_run.specs.Parts.{Did, Does, Gives, LeavesIt, Unless_wanting, given_in}
use Rattle.mean_run.specs.Steps.{is_kept}
use Rattle.mean_run.specs.declared.state.State.{State}
use Rattle.mean_work.specs.declared.work.Place as code_place
use Rattle.mean_work.specs.declared.work.Stop.{Stop}
use Rattle.mean_work.specs.declared.work.Stop.TheVariants as stop
use Rattle.mean_run.specs.Views.{funs_of, moment_of, now_of}
use Rattle.mean_work.specs.Places.{place_of}
use Rattle.mean_run.proofs.Tops.{map_behind, second_behind}

-- ---- what is given

module _ (p : Typed) (held : Store) (old new : State) where
  pub value_given : (v : public.Value) (r : Result (Unit {0}) Stop) →
      Unless_wanting r (new ≡ record old { values = v ∷ old.values }) →
      Does (Goes (with_value (value_of v) (moment_of p old held))) (moment_of p new held) r
  value_given v (Ok u) e = rw e refl
  value_given v (Err stop.NoMemory) e = tt
  value_given v (Err (stop.Ended x)) e = absurd e

  pub result_over : (c : Came Store Value) (s : Stop) (m : Moment Store) → Gives c value_of (now_of old held) (Err s) →
      Does (given_in c (moment_of p old held)) m (Err s)
  result_over c stop.NoMemory m e = tt
  result_over c (stop.Ended x) m e = ap (λ c. given_in c (moment_of p old held)) e

  pub result_given : (c : Came Store Value) (v : public.Value) (r : Result (Unit {0}) Stop) →
      c ≡ On (value_of v) (now_of old held) → Unless_wanting r (new ≡ record old { values = v ∷ old.values }) →
      Does (given_in c (moment_of p old held)) (moment_of p new held) r
  result_given c v r e h = rw e (value_given v r h)

pub same_act : (a b : Act (Moment Store) Ending) (m : Moment Store) (r : Result (Unit {0}) Stop) → a ≡ b →
    Does a m r → Does b m r
same_act a b m r e d = subst (λ a. Does a m r) e d

pub same_end : (a b : Act (Moment Store) Ending) (m n : Moment Store) (s : Stop) → a ≡ b → Does a m (Err s) →
    Does b n (Err s)
same_end a b m n stop.NoMemory e d = tt
same_end a b m n (stop.Ended x) e d = sym e ∙ d

-- ---- states from which values and places were taken

module _ (p : Typed) (held : Store) (old s t : State) where
  pub one_taken : s ≡ record old { values = behind old.values } →
      moment_of p s held ≡ less_value (moment_of p old held)
  one_taken a = rw (a, map_behind value_of old.values) refl

  pub two_taken : s ≡ record old { values = behind old.values } → t ≡ record s { values = behind s.values } →
      moment_of p t held ≡ less_value (less_value (moment_of p old held))
  two_taken a b = rw (b, a, map_behind value_of (behind old.values), map_behind value_of old.values) refl

  pub place_taken : s ≡ record old { places = behind old.places } →
      moment_of p s held ≡ less_place (moment_of p old held)
  place_taken a = rw (a, map_behind place_of old.places) refl

  pub places_taken : s ≡ record old { places = behind old.places } → t ≡ record s { places = behind s.places } →
      moment_of p t held ≡ less_place (less_place (moment_of p old held))
  places_taken a b = rw (b, a, map_behind place_of (behind old.places), map_behind place_of old.places) refl

  pub both_taken : s ≡ record old { values = behind old.values } → t ≡ record s { places = behind s.places } →
      moment_of p t held ≡ less_place (less_value (moment_of p old held))
  both_taken a b = rw (b, a, map_behind value_of old.values, map_behind place_of old.places) refl

  -- the value below the one that was taken
  pub below_top : (v : Value) → s ≡ record old { values = behind old.values } → v ≡ first_of (map value_of s.values) →
      v ≡ second_of (map value_of old.values)
  below_top v a b = b ∙ rw a (second_behind value_of old.values)

-- ---- operations

-- the answer of an operation goes on the values
pub answer_at : (p : Typed) (held : Store) (pos : Pos) (t : State) (m : Moment Store) (r s : Result Value Fault) →
    moment_of p t held ≡ m → r ≡ s →
    given_in (answer pos r (now_of t held)) (moment_of p t held) ≡ given_in (answer pos s m.now) m
answer_at p held pos t m r s e h = rw (← e, ← h) refl

module _ (ops : Operations Store) (funs : List Fun) (m n : Moment Store) (pos : Pos) where
  truth_given : (r : Result Bool Fault) →
      given_in (answer pos (on_ok ops (λ b. Ok (truth b)) r) m.now) n
      ≡ given_in (next_of (answer pos r m.now) (λ b. give (truth b))) n
  truth_given (Ok b) = refl
  truth_given (Err f) = refl

  not_given : (r : Result Bool Fault) →
      given_in (answer pos (on_ok ops (λ b. Ok (truth (not b))) r) m.now) n
      ≡ given_in (next_of (answer pos r m.now) (λ b. give (truth (not b)))) n
  not_given (Ok b) = refl
  not_given (Err f) = refl

module _ (ops : Operations Store) (funs : List Fun) (m : Moment Store) (pos : Pos) where
  pub compared_is : (op : CmpOp) (k : Kind) (x y : Ex) →
      given_in (answer pos (on_ok ops (λ b. Ok (truth b))
      (compare_by ops m.now.mem op k (second_of m.values) (first_of m.values))) m.now) (less_value (less_value m))
      ≡ finish_item ops funs (Compare pos op k x y) m
  compared_is op k x y = truth_given ops funs m (less_value (less_value m)) pos _

  pub signed_is : (op : UnaryOp) (k : Kind) (x : Ex) →
      given_in (answer pos (unary_by ops no_world op k m.now.mem (first_of m.values)) m.now) (less_value m)
      ≡ finish_item ops funs (sign_of pos k x op) m
  signed_is unary.Plus k x = refl
  signed_is unary.Minus k x = refl
  signed_is unary.Complement k x = refl
  signed_is unary.LogicalNot k x = not_given ops funs m (less_value m) pos (is_true ops m.now.mem k (first_of m.values))

  -- ---- conversions

  module _ (p : Typed) (vars : List VarDef) where
    abbrev converting : Bool → Option Kind → Option Kind → Bool → Ex → Ex
    converting v j l plain x = if v then Discard x else conversion_by p vars pos j l plain x

    pub discarded : (v : Bool) (j l : Option Kind) (plain : Bool) (x : Ex) → v ≡ true →
        Goes (with_value nothing (less_value m)) ≡ finish_item ops funs (converting v j l plain x) m
    discarded true j l plain x h = refl
    discarded false j l plain x h = absurd (let g : false ≡ true = h in cc)

    pub converted_is : (v : Bool) (j l : Option Kind) (plain : Bool) (x : Ex) → v ≡ false →
        (v || (is_some j && is_some l)) ≡ true →
        given_in (answer pos (convert_by ops m.now.mem (kind_or_int j) (kind_or_int l) (first_of m.values)) m.now)
        (less_value m) ≡ finish_item ops funs (converting v j l plain x) m
    converted_is true j l plain x v h = absurd (let g : true ≡ false = v in cc)
    converted_is false (Some j) (Some l) plain x v h = refl
    converted_is false (Some j) None plain x v h = absurd (let g : false ≡ true = h in cc)
    converted_is false None l plain x v h = absurd (let g : false ≡ true = h in cc)

-- ---- operations on what was taken

module _ (ops : Operations Store) (p : Typed) (held : Store) (old s t : State) (pos : Pos) (x y : public.Value)
    (s_is : s ≡ record old { values = behind old.values }) (y_is : value_of y ≡ first_of (map value_of old.values))
  where
    module _ (t_is : t ≡ record s { values = behind s.values })
        (x_is : value_of x ≡ first_of (map value_of s.values)) where
      pub operated_at : (o l : Operation) (r : Result Value Fault) (ex ey : Ex) → o ≡ l →
          r ≡ operate_by ops no_world o held (value_of x) (value_of y) →
          given_in (answer pos r (now_of t held)) (moment_of p t held)
          ≡ finish_item ops (funs_of p) (Binary pos l ex ey) (moment_of p old held)
      operated_at o l r ex ey is_op e =
          answer_at p held pos t (less_value (less_value (moment_of p old held))) r _
          (two_taken p held old s t s_is t_is)
          (e ∙ rw (is_op, y_is, below_top p held old s s (value_of x) s_is x_is) refl)

      pub compared_at : (op : CmpOp) (j k : Kind) (r : Result Value Fault) (b : Result Bool Fault) (ex ey : Ex) →
          j ≡ k →
          r ≡ on_ok ops (λ b. Ok (truth b)) b → b ≡ compare_by ops held op j (value_of x) (value_of y) →
          given_in (answer pos r (now_of t held)) (moment_of p t held)
          ≡ finish_item ops (funs_of p) (Compare pos op k ex ey) (moment_of p old held)
      compared_at op j k r b ex ey is_kind e h =
          answer_at p held pos t (less_value (less_value (moment_of p old held))) r _
          (two_taken p held old s t s_is t_is)
          (e ∙ ap (on_ok ops (λ b. Ok (truth b)))
          (h ∙ rw (is_kind, y_is, below_top p held old s s (value_of x) s_is x_is) refl))
          ∙ compared_is ops (funs_of p) (moment_of p old held) pos op k ex ey

    pub signed_at : (op : UnaryOp) (j k : Kind) (r : Result Value Fault) (e : Ex) → j ≡ k →
        r ≡ unary_by ops no_world op j held (value_of y) →
        given_in (answer pos r (now_of s held)) (moment_of p s held)
        ≡ finish_item ops (funs_of p) (sign_of pos k e op) (moment_of p old held)
    signed_at op j k r e is_kind h =
        answer_at p held pos s (less_value (moment_of p old held)) r _ (one_taken p held old s s s_is)
        (h ∙ rw (is_kind, y_is) refl)
        ∙ signed_is ops (funs_of p) (moment_of p old held) pos op k e

-- ---- places

module _ (ops : Operations Store) (funs : List Fun) (m : Moment Store) where
  pub loaded_none : (c : Bool) (k : Kind) (x : Ex) → c ≡ true →
      Goes (with_value nothing (less_place m)) ≡ finish_item ops funs (if c then Aggregate x else Load k x) m
  loaded_none true k x h = refl
  loaded_none false k x h = absurd (let g : false ≡ true = h in cc)

  pub loaded_is : (c : Bool) (k : Kind) (x : Ex) → c ≡ false →
      given_in (load ops k (first_place m.places) m.now) (less_place m)
      ≡ finish_item ops funs (if c then Aggregate x else Load k x) m
  loaded_is true k x h = absurd (let g : true ≡ false = h in cc)
  loaded_is false k x h = refl

module _ (ops : Operations Store) (p : Typed) (held : Store) (old s t : State) where
  abbrev Finished : Ex → Act (Moment Store) Ending
  Finished e = finish_item ops (funs_of p) e (moment_of p old held)

  pub loaded_at : (from : code_place.Place) (c : Bool) (j k : Kind) (x : Ex) → c ≡ false → j ≡ k →
      place_of from ≡ first_place (map place_of old.places) → s ≡ record old { places = behind old.places } →
      given_in (load ops j (place_of from) (now_of s held)) (moment_of p s held)
      ≡ Finished (if c then Aggregate x else Load k x)
  loaded_at from c j k x h is_kind at s_is =
      rw (s_is, at, is_kind, map_behind place_of old.places)
      (loaded_is ops (funs_of p) (moment_of p old held) c k x h)

  pub pointer_at : (pos : Pos) (o n : Option Narrowing) (x : Ex) → o ≡ n →
      s ≡ record old { places = behind old.places } →
      given_in (point_to ops pos o (first_place (map place_of old.places)) (now_of s held)) (moment_of p s held)
      ≡ Finished (Pointer_to pos n x)
  pointer_at pos o n x e s_is = rw (s_is, e, map_behind place_of old.places) refl

  pub converted_at : (pos : Pos) (vars : List VarDef) (v : public.Value) (r : Result Value Fault) (j l : Kind)
      (a b : Option CType) (x : Ex) → is_void b ≡ false → is_kept a b ≡ true → j ≡ kind_or_int (scalar_of a) →
      l ≡ kind_or_int (scalar_of b) → value_of v ≡ first_of (map value_of old.values) →
      s ≡ record old { values = behind old.values } → r ≡ convert_by ops held j l (value_of v) →
      given_in (answer pos r (now_of s held)) (moment_of p s held) ≡ Finished (conversion p vars pos a b x)
  converted_at pos vars v r j l a b x h kept is_old is_new value_is s_is e =
      answer_at p held pos s (less_value (moment_of p old held)) r _ (one_taken p held old s s s_is)
      (e ∙ rw (is_old, is_new, value_is) refl)
      ∙ converted_is ops (funs_of p) (moment_of p old held) pos p vars (is_void b) (scalar_of a)
      (scalar_of b) _ x h kept

  pub discarded_at : (pos : Pos) (vars : List VarDef) (a b : Option CType) (x : Ex) → is_void b ≡ true →
      s ≡ record old { values = behind old.values } →
      Goes (with_value nothing (moment_of p s held)) ≡ Finished (conversion p vars pos a b x)
  discarded_at pos vars a b x h s_is =
      ap (λ m. Goes (with_value nothing m)) (one_taken p held old s s s_is)
      ∙ discarded ops (funs_of p) (moment_of p old held) pos p vars (is_void b) (scalar_of a) (scalar_of b) _ x h

  -- a value is stored, a struct or union copied
  module _ (v : public.Value) (to : code_place.Place) (s_is : s ≡ record old { values = behind old.values })
      (t_is : t ≡ record s { places = behind s.places })
      (at : place_of to ≡ first_place (map place_of s.places)) where
    at_old : place_of to ≡ first_place (map place_of old.places)
    at_old = at ∙ rw s_is refl

    pub stored_is : (j k : Kind) (x y : Ex) → j ≡ k → value_of v ≡ first_of (map value_of old.values) →
        given_in (next_of (store ops j (place_of to) (value_of v) (now_of t held)) (λ _. give (value_of v)))
        (moment_of p t held) ≡ Finished (Assign k x y)
    stored_is j k x y is_kind value_is =
        rw (t_is, s_is, value_is, at_old, is_kind, map_behind value_of old.values, map_behind place_of old.places) refl

    pub compound_is : (pos : Pos) (o : Operation) (j k : Kind) (b : Bool) (ex ey : Ex) (x : Value) →
        load ops j (place_of to) (now_of t held) ≡ On x (now_of t held) →
        value_of v ≡ first_of (map value_of old.values) →
        given_in (changes ops pos o j k b (place_of to) x (value_of v) (now_of t held)) (moment_of p t held)
        ≡ Finished (Compound pos o j k b ex ey)
    compound_is pos o j k b ex ey x loads value_is =
        ap (λ c. given_in (next_of c (λ x. changes ops pos o j k b (place_of to) x (value_of v))) (moment_of p t held))
        (sym loads)
        ∙ rw (t_is, s_is, value_is, at_old, map_behind value_of old.values, map_behind place_of old.places) refl

  pub copied_is : (pos : Pos) (bytes unit : ℕ) (from to : code_place.Place) (x y : Ex) →
      s ≡ record old { places = behind old.places } → t ≡ record s { places = behind s.places } →
      place_of from ≡ first_place (map place_of old.places) → place_of to ≡ first_place (map place_of s.places) →
      given_in (next_of (copy ops pos bytes unit (place_of from) (place_of to) (now_of t held)) (λ _. give nothing))
      (moment_of p t held) ≡ Finished (Copy pos bytes unit x y)
  copied_is pos bytes unit from to x y s_is t_is from_is to_is =
      let at : place_of to ≡ first_place (behind (map place_of old.places)) =
      to_is ∙ rw (s_is, map_behind place_of old.places) refl in
      rw (t_is, s_is, from_is, at, map_behind place_of (behind old.places), map_behind place_of old.places) refl

-- a part that was done, behind which a value is given
module _ (p : Typed) (held left : Store) (t u new : State) (v : public.Value) (c : Came Store (Unit {0})) where
  pub done_given : (w : Value) (r : Result (Unit {0}) Stop) → value_of v ≡ w → c ≡ On tt (now_of u left) →
      moment_of p u left ≡ record (moment_of p t held) { now = now_of u left } →
      Unless_wanting r (new ≡ record u { values = v ∷ u.values }) →
      Does (given_in (next_of c (λ _. give w)) (moment_of p t held)) (moment_of p new left) r
  done_given w (Ok x) i e f h =
      ap (λ c. given_in (next_of c (λ _. give w)) (moment_of p t held)) e
      ∙ (ap (λ m. Goes (with_value w m)) (sym f) ∙ rw (h, ← i) refl)
  done_given w (Err stop.NoMemory) i e f h = tt
  done_given w (Err (stop.Ended x)) i e f h = absurd h

pub over_given : (m n : Moment Store) (v : Value) (c : Came Store (Unit {0})) (e : Ending) → c ≡ Over e →
    given_in (next_of c (λ _. give v)) m ≡ Ends e
over_given m n v c e h = ap (λ c. given_in (next_of c (λ _. give v)) m) h

pub did_over : (p : Typed) (held left : Store) (t u : State) (m : Moment Store) (v : Value)
    (c : Now Store → Came Store (Unit {0})) (s : Stop) → Did c (λ u. u) p t u held left (Err s) →
    Does (given_in (next_of (c (now_of t held)) (λ _. give v)) (moment_of p t held)) m (Err s)
did_over p held left t u m v c stop.NoMemory d = tt
did_over p held left t u m v c (stop.Ended e) d = over_given (moment_of p t held) m v _ e d

pub leaves_over : (p : Typed) (held : Store) (t : State) (m : Moment Store) (n : Now Store) (v : Value)
    (c : Came Store (Unit {0})) (s : Stop) → LeavesIt c n (Err s) →
    Does (given_in (next_of c (λ _. give v)) (moment_of p t held)) m (Err s)
leaves_over p held t m n v c stop.NoMemory d = absurd d
leaves_over p held t m n v c (stop.Ended e) d = over_given (moment_of p t held) m v c e d

-- ---- compound assignments

module _ (ops : Operations Store) (pos : Pos) (n : Now Store) (m : Moment Store)
    (h : Store → Value → Result Value Fault) (k : Value → Now Store → Came Store Value) where
  two_answers : (r : Result Value Fault) →
      given_in (next_of (answer pos (on_ok ops (h n.mem) r) n) k) m
      ≡ given_in (next_of (answer pos r n) (λ v n. next_of (answer pos (h n.mem v) n) k)) m
  two_answers (Ok v) = refl
  two_answers (Err f) = refl

  three_answers : (r : Result Value Fault) (g : Store → Value → Result Value Fault) →
      given_in (next_of (answer pos (on_ok ops (λ v. on_ok ops (h n.mem) (g n.mem v)) r) n) k) m
      ≡ given_in (next_of (answer pos r n)
      (λ v n. next_of (answer pos (g n.mem v) n) (λ r n. next_of (answer pos (h n.mem r) n) k))) m
  three_answers (Ok v) g = two_answers (g n.mem v)
  three_answers (Err f) g = refl

pub changes_to : (ops : Operations Store) (pos : Pos) (n : Now Store) (m : Moment Store) (o : Operation) (j l : Kind)
    (old : Bool) (to : Place) (x y z : Value) → Ok z ≡ changed_by ops n.mem o j l x y →
    given_in (next_of (store ops j to z n) (λ _. give (if old then x else z))) m
    ≡ given_in (changes ops pos o j l old to x y n) m
changes_to ops pos n m o j l old to x y z e =
    let k : Value → Now Store → Came Store Value = λ z n. next_of (store ops j to z n)
    (λ _. give (if old then x else z)) in
    ap (λ r. given_in (next_of (answer pos r n) k) m) e
    ∙ three_answers ops pos n m (λ m r. convert_by ops m l j r) k (convert_by ops n.mem j l x)
    (λ m v. operate_by ops no_world o m v y)
