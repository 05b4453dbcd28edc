-- What `rv_select` asks of the program of its test.
use Rattle.std.proofs.Common.{◌≡◌, ℕ, zero, suc, ◌<◌, ◌≤◌, List, [], ◌∷◌, Some, sym, subst, arith, length, get_or}
use Rattle.std.specs.List.{All, sum_by}
use Rattle.std.proofs.lemmas.Option.{same_Some}
use Rattle.obj_mem.specs.declared.map.Frame.{Frame}
use Rattle.purecap_abi.specs.Frames.{AreLocals}
use Rattle.purecap_abi.specs.Saving.{AreHomes, IsFor, IsSlotBelow}
use Rattle.reg_alloc.specs.declared.places.Home.{Home}
use Rattle.reg_alloc.specs.declared.places.Home.TheVariants.{Register}
use Rattle.reg_alloc.specs.declared.places.Places.{Places}
use Rattle.rv_select.specs.Selectable.{AreFramed}
use Rattle.tac_ir.specs.Costs.{function_cost}
use Rattle.tac_ir.specs.declared.code.TacFun.{TacFun}

pub one_is_cheap : (fs : List TacFun) (f : TacFun) → 1 ≤ length fs → length fs < 2 → f ≡ get_or fs 0 f
    → function_cost f < 200 → sum_by function_cost fs < 200
one_is_cheap [] f some one is lt = absurd (omega arith)
one_is_cheap (g ∷ []) f some one is lt =
    subst (λ (h : TacFun). sum_by function_cost (h ∷ []) < 200) is (omega (arith, lt))
one_is_cheap (g ∷ h ∷ gs) f some one is lt = absurd (omega arith)

pub homes_are : (homes : List Home) → homes ≡ Register 10 ∷ [] → AreHomes homes
homes_are homes e = subst AreHomes (sym e) (record { slots = slots; few = omega arith })
  where
    slots : All (IsSlotBelow 1) (Register 10 ∷ [])
    slots zero d lt = tt
    slots (suc k) d lt = absurd (omega arith)

pub no_locals : AreLocals []
no_locals = record { each = λ k d lt. absurd (omega arith); few = omega arith; fit = omega arith }

pub framed_one : (l : Places) (f : Frame) (ls : List Places) (fs : List Frame) → ls ≡ l ∷ [] → fs ≡ f ∷ []
    → IsFor l.homes f → AreFramed ls fs
framed_one l f ls fs e g h =
    subst (λ (v : List Places). AreFramed v fs) (sym e) (subst (AreFramed (l ∷ [])) (sym g) one)
  where
    one : AreFramed (l ∷ []) (f ∷ [])
    one zero m n p q =
        subst (λ (x : Places). IsFor x.homes n) (same_Some l m p) (subst (IsFor l.homes) (same_Some f n q) h)
    one (suc k) m n p q = absurd cc
