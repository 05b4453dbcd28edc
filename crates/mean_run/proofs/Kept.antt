-- What the kind that is known of a type says of the type.
use Rattle.std.proofs.Common.{◌≡◌, Bool, true, false, Option, Some, None, refl, ap, ◌∙◌}
use Rattle.std.specs.Prelude.{option_map, not, ◌&&◌}
use Rattle.c_tree.specs.declared.typed.CType.{CType}
use Rattle.c_tree.specs.declared.typed.CType.TheVariants as types
use Rattle.cheri_c_sem.specs.Kinds as meaning
use Rattle.cheri_c_sem.specs.Types.{scalar_of, is_plain, is_pointer, is_signed_capability}
use Rattle.mean_types.specs.Views.{kind_of}
use Rattle.mean_types.specs.declared.kinds.Kind.{Kind}
use Rattle.mean_types.specs.declared.kinds.Kind.TheVariants as kind
use Rattle.mean_run.specs.Choices.{is_capability_integer}

-- a plain integer; a capability: as the code keeps them, and as the meaning has them
abbrev pub is_kept_plain : Option Kind → Bool
is_kept_plain (Some (kind.Plain k)) = true
is_kept_plain (Some (kind.Capability signed)) = false
is_kept_plain None = false

abbrev pub is_kept_capability : Option Kind → Bool
is_kept_capability (Some (kind.Capability signed)) = true
is_kept_capability (Some (kind.Plain k)) = false
is_kept_capability None = false

plain_kind : Option meaning.Kind → Bool
plain_kind (Some (meaning.Plain k)) = true
plain_kind (Some (meaning.Capability signed)) = false
plain_kind None = false

capability_kind : Option meaning.Kind → Bool
capability_kind (Some (meaning.Capability signed)) = true
capability_kind (Some (meaning.Plain k)) = false
capability_kind None = false

kept_plain : (k : Option Kind) → is_kept_plain k ≡ plain_kind (option_map kind_of k)
unfolding plain_kind
kept_plain (Some (kind.Plain k)) = refl
kept_plain (Some (kind.Capability signed)) = refl
kept_plain None = refl

kept_capability : (k : Option Kind) → is_kept_capability k ≡ capability_kind (option_map kind_of k)
unfolding capability_kind
kept_capability (Some (kind.Plain k)) = refl
kept_capability (Some (kind.Capability signed)) = refl
kept_capability None = refl

plain_type : (o : Option CType) → plain_kind (scalar_of o) ≡ is_plain o
unfolding plain_kind
plain_type None = refl
plain_type (Some types.Void) = refl
plain_type (Some (types.Int k n)) = refl
plain_type (Some (types.Cap signed)) = refl
plain_type (Some (types.Pointer t)) = refl
plain_type (Some (types.Array t n)) = refl
plain_type (Some (types.Struct tag ms)) = refl
plain_type (Some (types.Union tag ms)) = refl
plain_type (Some (types.Function t ps)) = refl
plain_type (Some (types.Const t)) = refl
plain_type (Some (types.Incomplete tag)) = refl

capability_type : (o : Option CType) → (not (is_pointer o) && capability_kind (scalar_of o)) ≡ is_capability_integer o
unfolding capability_kind
capability_type None = refl
capability_type (Some types.Void) = refl
capability_type (Some (types.Int k n)) = refl
capability_type (Some (types.Cap signed)) = refl
capability_type (Some (types.Pointer t)) = refl
capability_type (Some (types.Array t n)) = refl
capability_type (Some (types.Struct tag ms)) = refl
capability_type (Some (types.Union tag ms)) = refl
capability_type (Some (types.Function t ps)) = refl
capability_type (Some (types.Const t)) = refl
capability_type (Some (types.Incomplete tag)) = refl

pub plain_by : (k : Option Kind) (o : Option CType) → option_map kind_of k ≡ scalar_of o → is_kept_plain k ≡ is_plain o
plain_by k o h = kept_plain k ∙ ap plain_kind h ∙ plain_type o

pub capability_by : (k : Option Kind) (o : Option CType) (b : Bool) → option_map kind_of k ≡ scalar_of o →
    b ≡ is_pointer o → (not b && is_kept_capability k) ≡ is_capability_integer o
capability_by k o b h e =
    ap (λ c. not c && is_kept_capability k) e
    ∙ ap (λ c. not (is_pointer o) && c) (kept_capability k ∙ ap capability_kind h) ∙ capability_type o

abbrev pub is_kept_signed : Option Kind → Bool
is_kept_signed (Some (kind.Capability signed)) = signed
is_kept_signed (Some (kind.Plain k)) = false
is_kept_signed None = false

signed_kind : Option meaning.Kind → Bool
signed_kind (Some (meaning.Capability signed)) = signed
signed_kind (Some (meaning.Plain k)) = false
signed_kind None = false

kept_signed : (k : Option Kind) → is_kept_signed k ≡ signed_kind (option_map kind_of k)
unfolding signed_kind
kept_signed (Some (kind.Plain k)) = refl
kept_signed (Some (kind.Capability signed)) = refl
kept_signed None = refl

signed_type : (o : Option CType) → (not (is_pointer o) && signed_kind (scalar_of o)) ≡ is_signed_capability o
unfolding signed_kind
signed_type None = refl
signed_type (Some types.Void) = refl
signed_type (Some (types.Int k n)) = refl
signed_type (Some (types.Cap signed)) = refl
signed_type (Some (types.Pointer t)) = refl
signed_type (Some (types.Array t n)) = refl
signed_type (Some (types.Struct tag ms)) = refl
signed_type (Some (types.Union tag ms)) = refl
signed_type (Some (types.Function t ps)) = refl
signed_type (Some (types.Const t)) = refl
signed_type (Some (types.Incomplete tag)) = refl

pub signed_by : (k : Option Kind) (o : Option CType) (b : Bool) → option_map kind_of k ≡ scalar_of o →
    b ≡ is_pointer o → (not b && is_kept_signed k) ≡ is_signed_capability o
signed_by k o b h e =
    ap (λ c. not c && is_kept_signed k) e
    ∙ ap (λ c. not (is_pointer o) && c) (kept_signed k ∙ ap signed_kind h) ∙ signed_type o
