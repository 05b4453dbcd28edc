-- Calls through values.
use Rattle.std.proofs.Common.{◌≡◌, ℕ, ◌+◌, ◌%◌, ◌^◌, ◌≤◌, ◌==◌, ◌&&◌, ◌||◌, true, false, not, ltb, refl, ap, ◌∙◌, arith}
use Rattle.std.proofs.Common.{Some, ◌<◌, subst}
use Rattle.std.specs.Prelude.{find, ℤ, pos, Ok}
use Rattle.std.proofs.lemmas.Bool.{cond_both, le-ltb, eq-eqb, or_from}
use Rattle.ck_int.specs.Kinds.{kept_of}
use Rattle.cap_concentrate.specs.Encoding.{with_bounds}
use Rattle.cap_concentrate.specs.Rounding.{Encodable}
use Rattle.cap_ops.specs.declared.access.Access.TheVariants as A
use Rattle.cap_ops.specs.declared.access.Cause.TheVariants as C
use Rattle.cap_ops.specs.declared.capability.Cap.{Cap}
use Rattle.cap_ops.specs.declared.capability.TheConstants.{UNSEALED, SENTRY, EXECUTE}
use Rattle.cap_ops.specs.Bounded.{bounded}
use Rattle.cap_ops.specs.Access.{fails, in_order, answer, checked}
use Rattle.cap_ops.specs.Capability.{base, top, lacks, with_otype}
use Rattle.cap_ops.proofs.Laws.{bounded_bounds, bounded_moved}
use Rattle.cap_ops.specs.Permissions.{code_permissions}
use Rattle.cap_machine.specs.declared.machine.Machine.{Machine}
use Rattle.cap_machine.specs.Integers.{extended}
use Rattle.cap_machine.specs.State.{register}
use Rattle.cap_machine.specs.Rows.{plus, trap, jump, unsealed, entered, cjalr_checked, cjalr_row}
use Rattle.obj_mem.specs.Values.{Value, Int, Live, Fun, Raw, Addresses, capability_of}
use Rattle.obj_mem.specs.Comparisons.{callee}
use Rattle.obj_mem.specs.Objects.{Memory, base_in}
use Rattle.place_inject.specs.Values.{IsKnown}
use Rattle.place_inject.specs.Objects.{ObjectsFit}
use Rattle.obj_mem.specs.Access.{misses}
use Rattle.place_inject.specs.Calling.{CallAnswers, CalleesFit}
use Rattle.place_inject.proofs.Checked.{Points, pointer, pointer_checked, untagged_checked}
use Rattle.place_inject.proofs.Known.{pointer_is, plus_zero, integer_tag, raw_tag, points}
use Rattle.place_inject.proofs.ReadBack.{none_fails}

-- ---- a sentry of a place in the text

module _ (low high at : ℕ) (enc : Encodable low high) (from : low ≤ at) (to : at + 4 ≤ high) (aligned : at % 4 ≡ 0)
    (end : high ≤ 2 ^ 40) where
  abbrev sentry : Cap
  sentry = bounded low high code_permissions SENTRY at

  abbrev code : Cap
  code = bounded low high code_permissions UNSEALED at

  entered_is : entered sentry (pos 0) ≡ code
  unfolding with_bounds unsealed with_otype kept_of
  entered_is = refl

  code_address : code.fields.address ≡ at
  unfolding with_bounds
  code_address = refl

  not_sealed : fails code at A.Jump C.Sealed ≡ false
  unfolding with_bounds
  not_sealed = refl

  may_execute : fails code at A.Jump C.Execute ≡ false
  unfolding with_bounds
  may_execute = refl

  code_bounds : (base code ≡ low) × (top code ≡ high)
  code_bounds = bounded_bounds low high code_permissions UNSEALED at enc (omega (arith, from, to, end)) from
      (omega (arith, to))

  code_checked : checked code at A.Jump ≡ Ok at
  unfolding checked
  code_checked =
      let q = code_bounds in
      let bounds : (ltb at (base code) || ltb (top code) (at + 4)) ≡ false =
      or_from _ _ (le-ltb at (base code) (let e = q.0 in omega (arith, e, from)))
      (le-ltb (top code) (at + 4) (let e = q.1 in omega (arith, e, to))) in
      let align : not (at % 4 == 0) ≡ false = ap not (eq-eqb (at % 4) 0 aligned) in
      ap (answer at) (none_fails (fails code at A.Jump) refl not_sealed refl refl refl may_execute bounds align)

  -- a jump to it goes there
  pub sentry_enters : (m : Machine) (link rs : ℕ) → register m rs ≡ sentry →
      cjalr_row m link rs (pos 0) ≡ jump m link code
  unfolding cjalr_row
  sentry_enters m link rs holds =
      let q = code_bounds in
      let place : plus code.fields.address (pos 0) ≡ at =
      ap (λ x. plus x (pos 0)) code_address ∙ plus_zero at (omega (arith, to, end)) in
      ap (λ r. cjalr_checked m link (entered r (pos 0))
      (checked (entered r (pos 0)) (plus (entered r (pos 0)).fields.address (pos 0)) A.Jump)) holds
      ∙ ap (λ c. cjalr_checked m link c (checked c (plus c.fields.address (pos 0)) A.Jump)) entered_is
      ∙ ap (λ x. cjalr_checked m link code (checked code x A.Jump)) place
      ∙ ap (cjalr_checked m link code) code_checked
      ∙ ap (jump m link) (bounded_moved low high code_permissions at at q.0 q.1 q.0 q.1)

function_is : (a : Addresses) (base : ℕ → ℕ) (f : ℕ)
    → capability_of a base (Fun f) ≡ bounded a.text a.text_end code_permissions SENTRY (a.entry f)
unfolding capability_of
function_is a base f = refl

-- ---- a value without a tag

entered_tag : (c : Cap) (z : ℤ) → (entered c z).tag ≡ c.tag
unfolding unsealed
entered_tag c z = cond_both (c.fields.otype == SENTRY && extended z == 0) (unsealed c) c (λ (d : Cap). d.tag ≡ c.tag)
    (λ e. refl) (λ e. refl)

untagged_called : (m : Machine) (link rs : ℕ) (c : Cap) → register m rs ≡ c → c.tag ≡ false
    → cjalr_row m link rs (pos 0) ≡ trap m C.Tag
unfolding cjalr_row
untagged_called m link rs c holds untagged =
    let d = entered c (pos 0) in
    ap (λ r. cjalr_checked m link (entered r (pos 0))
    (checked (entered r (pos 0)) (plus (entered r (pos 0)).fields.address (pos 0)) A.Jump)) holds
    ∙ ap (cjalr_checked m link d)
    (untagged_checked d (plus d.fields.address (pos 0)) A.Jump (entered_tag c (pos 0) ∙ untagged))

-- ---- a pointer

module _ (b low high at perms : ℕ) (p : Points b low high at perms) (no_execute : lacks perms EXECUTE ≡ true) where
  abbrev c : Cap
  c = pointer b low high at perms p

  own_address : c.fields.address ≡ (b + at) % 2 ^ 64
  unfolding with_bounds
  own_address = refl

  address : plus c.fields.address (pos 0) ≡ (b + at) % 2 ^ 64
  address = ap (λ x. plus x (pos 0)) own_address ∙ plus_zero ((b + at) % 2 ^ 64) (omega arith)

  not_entered : entered c (pos 0) ≡ c
  unfolding with_bounds
  not_entered = refl

  execute_first : find (misses low high at perms A.Jump) in_order ≡ Some C.Execute
  execute_first = rw no_execute refl

  pointer_called : (m : Machine) (link rs : ℕ) → register m rs ≡ c
      → cjalr_row m link rs (pos 0) ≡ trap m C.Execute
  unfolding cjalr_row
  pointer_called m link rs holds =
      ap (λ r. cjalr_checked m link (entered r (pos 0))
      (checked (entered r (pos 0)) (plus (entered r (pos 0)).fields.address (pos 0)) A.Jump)) holds
      ∙ ap (λ d. cjalr_checked m link d (checked d (plus d.fields.address (pos 0)) A.Jump)) not_entered
      ∙ ap (λ x. cjalr_checked m link c (checked c x A.Jump)) address
      ∙ ap (cjalr_checked m link c) (pointer_checked b low high at perms p A.Jump tt
      ∙ ap (answer ((b + at) % 2 ^ 64)) execute_first)

-- ---- the law

-- the first word of a function lies in the text
pub record FirstLies (a : Addresses) (f : ℕ) : Type 0 where
  pub exact : Encodable a.text a.text_end
  pub within : a.entry f + 4 ≤ a.text_end
  pub aligned : a.entry f % 4 ≡ 0

pub callees_answer : (functions : ℕ) (a : Addresses) (objects : Memory) (m : Machine)
    → ObjectsFit functions a objects m.mem → (link rs : ℕ) (v : Value) → IsKnown objects.shapes functions v
    → ((f : ℕ) → v ≡ Fun f → FirstLies a f) → register m rs ≡ capability_of a (base_in objects.shapes) v
    → CallAnswers m link a (callee v) (cjalr_row m link rs (pos 0))
callees_answer functions a objects m fit link rs (Int n) k lies holds =
    untagged_called m link rs _ holds (integer_tag a (base_in objects.shapes) n)
callees_answer functions a objects m fit link rs (Raw address upper) k lies holds =
    untagged_called m link rs _ holds (raw_tag a (base_in objects.shapes) address upper)
callees_answer functions a objects m fit link rs (Fun f) k lies holds =
    let l = lies f refl in
    sentry_enters a.text a.text_end (a.entry f) l.exact (fit.spread.in_text f k).0 l.within l.aligned
    fit.spread.text_to m link rs (holds ∙ function_is a (base_in objects.shapes) f)
callees_answer functions a objects m fit link rs (Live o low high at perms) k lies holds =
    pointer_called k.shape.base low high at perms
    (points functions a objects m.mem fit o low high at perms k) k.no_execute
    m link rs (holds ∙ pointer_is a objects.shapes o low high at perms k.shape k.there)

pub callees_fit_law : CalleesFit
callees_fit_law functions a objects m fit lie link rs v k holds =
    callees_answer functions a objects m fit link rs v k (lies v k) holds
  where
    lies : (v : Value) → IsKnown objects.shapes functions v → (f : ℕ) → v ≡ Fun f → FirstLies a f
    lies v k f e =
        let known : f < functions = subst (IsKnown objects.shapes functions) e k in
        record { exact = lie.exact; within = lie.within f known; aligned = lie.aligned f known }
