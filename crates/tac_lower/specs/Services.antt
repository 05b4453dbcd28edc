-- What the numbers of library functions and intrinsics stand for.
use Rattle.std.specs.Prelude.{◌≡◌, ℕ, Option, unwrap_or, List, [], ◌∷◌}
use Rattle.ck_int.specs.declared.kinds.IntKind.TheVariants as int
use Rattle.c_tree.specs.Libraries.{Asked, Any_capability, A, Given, Of, As_argument}
use Rattle.c_tree.specs.Types.{Void, Pointer, bool, int, unsigned_long}
use Rattle.tac_ir.specs.declared.code.CapWork.TheVariants as cap
use Rattle.tac_ir.specs.declared.code.LibOp.TheVariants as lib
use Rattle.tac_ir.specs.declared.code.TacKind.{TacKind}
use Rattle.tac_ir.specs.declared.code.TacKind.TheVariants as kinds
use Rattle.tac_lower.specs.declared.calls.Intrinsic.{Intrinsic}
use Rattle.tac_lower.specs.declared.calls.Intrinsic.TheVariants as intrinsics
use Rattle.tac_lower.specs.declared.calls.Service.{Service}
use Rattle.tac_lower.specs.declared.calls.Service.TheVariants as services
use Rattle.tac_emit.specs.declared.emitter.Emitter.{Emitter}
use Rattle.tac_emit.specs.Emitted.{HasKind, HasInt, SameCapability, WorkFits}

-- it asks for these arguments, and gives this
abbrev pub ServiceAsks : Service → List Asked → Given → Type 0
ServiceAsks (services.Library lib.PutChar) takes gives = (takes ≡ A int ∷ []) × (gives ≡ Of int)
ServiceAsks (services.Library lib.GetChar) takes gives = (takes ≡ []) × (gives ≡ Of int)
ServiceAsks (services.Library lib.Malloc) takes gives = (takes ≡ A unsigned_long ∷ []) × (gives ≡ Of (Pointer Void))
ServiceAsks services.Exit takes gives = (takes ≡ A int ∷ []) × (gives ≡ Of Void)
ServiceAsks (services.Intrinsic intrinsics.Address) takes gives =
    (takes ≡ Any_capability ∷ []) × (gives ≡ Of unsigned_long)
ServiceAsks (services.Intrinsic (intrinsics.Bounds exact)) takes gives =
    (takes ≡ Any_capability ∷ A unsigned_long ∷ []) × (gives ≡ As_argument)
ServiceAsks (services.Intrinsic (intrinsics.Work cap.Base)) takes gives =
    (takes ≡ Any_capability ∷ []) × (gives ≡ Of unsigned_long)
ServiceAsks (services.Intrinsic (intrinsics.Work cap.Offset)) takes gives =
    (takes ≡ Any_capability ∷ []) × (gives ≡ Of unsigned_long)
ServiceAsks (services.Intrinsic (intrinsics.Work cap.Length)) takes gives =
    (takes ≡ Any_capability ∷ []) × (gives ≡ Of unsigned_long)
ServiceAsks (services.Intrinsic (intrinsics.Work cap.Perms)) takes gives =
    (takes ≡ Any_capability ∷ []) × (gives ≡ Of unsigned_long)
ServiceAsks (services.Intrinsic (intrinsics.Work cap.Tag)) takes gives =
    (takes ≡ Any_capability ∷ []) × (gives ≡ Of bool)
ServiceAsks (services.Intrinsic (intrinsics.Work cap.Clear)) takes gives =
    (takes ≡ Any_capability ∷ []) × (gives ≡ As_argument)
ServiceAsks (services.Intrinsic (intrinsics.Work cap.SetAddress)) takes gives =
    (takes ≡ Any_capability ∷ A unsigned_long ∷ []) × (gives ≡ As_argument)
ServiceAsks (services.Intrinsic (intrinsics.Work cap.AndPerms)) takes gives =
    (takes ≡ Any_capability ∷ A unsigned_long ∷ []) × (gives ≡ As_argument)
ServiceAsks (services.Intrinsic (intrinsics.Work cap.EqualExact)) takes gives =
    (takes ≡ Any_capability ∷ Any_capability ∷ []) × (gives ≡ Of bool)
ServiceAsks (services.Intrinsic (intrinsics.Work cap.Rounded)) takes gives =
    (takes ≡ A unsigned_long ∷ []) × (gives ≡ Of unsigned_long)
ServiceAsks (services.Intrinsic (intrinsics.Work cap.Mask)) takes gives =
    (takes ≡ A unsigned_long ∷ []) × (gives ≡ Of unsigned_long)
ServiceAsks s takes gives = ⊥

-- an intrinsic, by the kind of its first argument and by the temps of its result and of its arguments
abbrev pub IntrinsicFits : Emitter → Intrinsic → TacKind → (to a : ℕ) → Option ℕ → Type 0
IntrinsicFits e intrinsics.Address kind to a b = HasKind e a kind × HasKind e to (kinds.Int int.U64)
IntrinsicFits e (intrinsics.Bounds exact) kind to a b = SameCapability e to a × HasInt e (unwrap_or b 0)
IntrinsicFits e (intrinsics.Work op) kind to a b = WorkFits e op to a b
