-- Values and their conversion.
use Rattle.std.proofs.Common.{◌≡◌, Bool, true, false, None, refl}
use Rattle.std.specs.Prelude.{◌&&◌}
use Rattle.c_tree.specs.Types.{Ty, Pointer, is_integer, target_of, same}
use Rattle.c_tree.specs.Terms.{Term, type_of}
use Rattle.c_tree.specs.Constants.{is_null_constant}
use Rattle.c_tree.specs.Conversions.{converted_term, designates, goes_to}
use Rattle.c_expressions.specs.Values.{loaded}

pub converted-same : (t : Ty) (x : Term) (b : Bool) → same (type_of x) t ≡ b → b ≡ true → x ≡ converted_term t x
converted-same t x b e d = rw (e, d) refl

pub loaded-plain : (x : Term) (b : Bool) → designates x ≡ b → b ≡ false → x ≡ loaded x
loaded-plain x b e d = rw (e, d) refl

pub goes_to-null : (a t : Ty) (x : Term) (r : Bool) → target_of t ≡ None → (is_integer t && is_null_constant x) ≡ r →
    goes_to (Pointer a) t x ≡ r
goes_to-null a (Pointer b) x r e h = absurd cc
goes_to-null a _ x r e h = h
