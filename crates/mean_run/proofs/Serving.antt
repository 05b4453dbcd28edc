-- Library functions and intrinsics do what the machine does.
use Rattle.std.proofs.Common.{◌≡◌, ℕ, zero, suc, ◌%◌, ◌<◌, ◌≤◌, true, false, List, [], ◌∷◌, length, Some, None, Result}
use Rattle.std.proofs.Common.{Ok, Err}
use Rattle.std.proofs.Common.{refl, sym, subst, arith}
use Rattle.std.specs.Prelude.{slice_index_or}
use Rattle.ck_base.specs.Calls.{Seen, Acted}
use Rattle.ck_base.specs.Runs.{Act, Puts, Reads}
use Rattle.ck_base.specs.declared.positions.Pos.{Pos}
use Rattle.obj_mem.specs.declared.ending.Ending.{Ending}
use Rattle.obj_mem.specs.declared.ending.Fault.{Fault}
use Rattle.obj_mem.specs.Values.{Value, Int}
use Rattle.cheri_c_sem.specs.Kinds.{nothing, number_of}
use Rattle.cheri_c_sem.specs.Meaning.{first_of, second_of}
use Rattle.cheri_c_sem.specs.Modes.{Store}
use Rattle.cheri_c_sem.specs.Operations.{Operations}
use Rattle.cheri_c_sem.specs.Operations as meaning
use Rattle.cheri_c_sem.specs.Steps.{byte_or_end}
use Rattle.cheri_c_sem.specs.Tree.{Service, Put_char, Get_char, Malloc, Exit, Address, Bounds, Works, Fun}
use Rattle.cheri_c_sem.specs.Types.{service_of}
use Rattle.mean_bases.specs.Bases.{HasBase, HaveBases}
use Rattle.mean_steps.specs.Machine.{Moment, limits, serve, turned, with_value}
use Rattle.mean_steps.specs.Parts.{allocate, answer}
use Rattle.mean_run.specs.Acts.{Stepped}
use Rattle.mean_run.specs.Parts.{Does, given_in}
use Rattle.mean_run.specs.Services.{asked_of}
use Rattle.mean_work.specs.declared.work.Stop.{Stop}
use Rattle.mean_work.specs.declared.work.Stop.TheVariants as stop

-- what neither reads nor puts was one act
pub does_stepped : (a : Act (Moment Store) Ending) (seen : Seen) (old new : Moment Store) (r : Result (Unit {0}) Stop) →
    Does a new r → Stepped a seen seen old new r
does_stepped a seen old new (Ok u) d =
    subst (λ a. Acted limits a seen seen old new None) (sym d) (refl, refl, refl)
does_stepped a seen old new (Err stop.NoMemory) d = refl
does_stepped a seen old new (Err (stop.Ended e)) d =
    subst (λ a. Acted limits a seen seen old old (Some e)) (sym d) (refl, refl, refl)

pub stepped_as : (a b : Act (Moment Store) Ending) (before after : Seen) (old new : Moment Store)
    (r : Result (Unit {0}) Stop) → a ≡ b → Stepped a before after old new r → Stepped b before after old new r
stepped_as a b before after old new r e d = subst (λ a. Stepped a before after old new r) e d

-- the services that ask something of a capability
abbrev pub IsAsked : Service → Type 0
IsAsked Address = Unit {0}
IsAsked (Bounds exact) = Unit {0}
IsAsked (Works work) = Unit {0}
IsAsked service = ⊥

abbrev AllAsked : List Service → Type 0
AllAsked [] = Unit {0}
AllAsked (s ∷ ss) = IsAsked s × AllAsked ss

asked_in : (ss : List Service) (k : ℕ) → AllAsked ss → k < length ss → IsAsked (slice_index_or ss k Exit)
asked_in [] k h lt = absurd (omega arith)
asked_in (s ∷ ss) zero h lt = h.0
asked_in (s ∷ ss) (suc k) h lt = asked_in ss k h.1 (omega arith)

abbrev intrinsics : List Service
intrinsics =
    Address ∷ Works meaning.Base ∷ Works meaning.Offset ∷ Works meaning.Length ∷ Works meaning.Tag
    ∷ Works meaning.Perms ∷ Works meaning.Set_address ∷ Works meaning.Clear ∷ Bounds false ∷ Bounds true
    ∷ Works meaning.And_perms ∷ Works meaning.Equal_exact ∷ Works meaning.Rounded ∷ Works meaning.Mask ∷ []

all_asked : AllAsked intrinsics
all_asked =
    (tt, (tt, (tt, (tt, (tt, (tt, (tt, (tt, (tt, (tt, (tt, (tt, (tt, (tt, tt))))))))))))))

pub is_asked : (n : ℕ) → 4 ≤ n → n ≤ 17 → IsAsked (service_of n)
is_asked zero a b = absurd (omega arith)
is_asked (suc zero) a b = absurd (omega arith)
is_asked (suc (suc zero)) a b = absurd (omega arith)
is_asked (suc (suc (suc zero))) a b = absurd (omega arith)
is_asked (suc (suc (suc (suc k)))) a b =
    asked_in intrinsics k all_asked (omega arith)

-- ---- bases of arguments

module _ (ops : Operations Store) (s : Store) where
  none_base : (vs : List Value) → HaveBases ops s vs → HasBase ops s nothing
  none_base [] h = h
  none_base (v ∷ vs) h = none_base vs h.1

  first_base : (vs : List Value) → HaveBases ops s vs → HasBase ops s (first_of vs)
  first_base [] h = h
  first_base (v ∷ vs) h = h.0

  turned_bases : (n : ℕ) (vs others : List Value) → HaveBases ops s vs → HaveBases ops s others →
      HaveBases ops s (turned n vs others)
  turned_bases zero vs others h i = i
  turned_bases (suc n) [] others h i = i
  turned_bases (suc n) (v ∷ vs) others h i = turned_bases n vs (v ∷ others) h.1 (h.0, i)

  pub argument_base : (n : ℕ) (vs : List Value) (v : Value) → v ≡ first_of (turned n vs []) → HaveBases ops s vs →
      HasBase ops s v
  argument_base n vs v e h =
      subst (HasBase ops s) (sym e) (first_base (turned n vs []) (turned_bases n vs [] h (none_base vs h)))

module _ (ops : Operations Store) (funs : List Fun) (pos : Pos) (vs : List Value) (t m : Moment Store)
    (same : t ≡ m) where
  pub put_is : (b n : ℕ) → n ≡ number_of (first_of vs) → b ≡ n % 256 →
      Puts b (with_value (Int b) t) ≡ serve ops funs pos Put_char vs m
  put_is b n e h = rw (h, e, same) refl

  pub read_is : Reads (λ b. with_value (byte_or_end b) t) ≡ serve ops funs pos Get_char vs m
  read_is = rw same refl

  pub allocated_is : (n : ℕ) → n ≡ number_of (first_of vs) →
      given_in (allocate ops pos n t.now) t ≡ serve ops funs pos Malloc vs m
  allocated_is n e = rw (e, same) refl

  asked_by : (s : Service) → IsAsked s →
      given_in (answer pos (asked_of ops m.now.mem s (first_of vs) (second_of vs)) m.now) m ≡ serve ops funs pos s vs m
  asked_by Address h = refl
  asked_by (Bounds exact) h = refl
  asked_by (Works work) h = refl
  asked_by Put_char h = absurd h
  asked_by Get_char h = absurd h
  asked_by Malloc h = absurd h
  asked_by Exit h = absurd h

  pub asked_is : (s : Service) (v x : Value) (r : Result Value Fault) → IsAsked s → v ≡ first_of vs → x ≡ second_of vs →
      r ≡ asked_of ops t.now.mem s v x → given_in (answer pos r t.now) t ≡ serve ops funs pos s vs m
  asked_is s v x r h v_is x_is e = rw (e, v_is, x_is, same) (asked_by s h)
