-- What is within the limit has its own size, and no size is over the limit.
use Rattle.std.proofs.Common.{◌≡◌, ℕ, ◌≤◌, Option, Some, None, refl, ◌∙◌, ap, arith}
use Rattle.std.proofs.lemmas.Bool.{le-leb}
use Rattle.c_tree.specs.Layout.{Extent, size_limit, fitting, size_of}

pub fitting_same : (n : ℕ) → n ≤ size_limit → fitting n ≡ n
fitting_same n h = rw (le-leb n size_limit h) refl

pub fitting_most : (n : ℕ) → fitting n ≤ n
fitting_most n = grind arith

pub fitting_limit : (n : ℕ) → fitting n ≤ size_limit
fitting_limit n = grind arith

pub size_same : (o : Option Extent) (x : Extent) → o ≡ Some x → x.size ≤ size_limit → size_of o ≡ x.size
size_same o x e h = ap size_of e ∙ fitting_same x.size h

pub size_most : (o : Option Extent) → size_of o ≤ size_limit
size_most None = omega arith
size_most (Some x) = fitting_limit x.size
