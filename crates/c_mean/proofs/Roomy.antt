-- The objects of a program that typing gives, and which has room, can begin.
use Rattle.std.proofs.Common.{◌≡◌, ℕ, zero, suc, ◌+◌, ◌^◌, ◌<◌, ◌≤◌, List, [], ◌∷◌, length, Some, refl, ap, arith}
use Rattle.std.specs.Prelude.{slice_get, sum_by}
use Rattle.std.proofs.lemmas.List.Sums.{sum_by-cons}
use Rattle.std.proofs.lemmas.Option.{none-some, same_Some}
use Rattle.cap_concentrate.proofs.Owned.{owned_ge, owned_small}
use Rattle.c_tree.specs.File.{HasRoom, global_room, literal_room}
use Rattle.c_tree.specs.Layout.{size_limit}
use Rattle.c_tree.specs.Typing.{Sound}
use Rattle.c_tree.specs.WellTyped.{WellTyped, OwnsBytes}
use Rattle.c_tree.specs.declared.typed.GlobalDef.{GlobalDef}
use Rattle.c_tree.specs.declared.typed.Link.{Link}
use Rattle.c_tree.specs.declared.typed.Literal.{Literal}
use Rattle.c_tree.specs.declared.typed.Target.{Target}
use Rattle.c_tree.specs.declared.typed.Target.TheVariants as target
use Rattle.c_tree.specs.declared.typed.Typed.{Typed}
use Rattle.typing_laws.proofs.Sound.{well_typed}
use Rattle.cheri_c_sem.specs.Types.{size_in, size_of_extent}
use Rattle.c_mean.specs.Starting.{IsSized, IsStartable}

-- ---- sums

one_of : {A : Type 0} (f : A → ℕ) (xs : List A) (k : ℕ) (x : A) → slice_get xs k ≡ Some x → f x ≤ sum_by f xs
one_of f [] k x e = absurd (none-some x e)
one_of f (y ∷ ys) zero x e =
    let same : f y ≡ f x = ap f (same_Some y x e) in
    omega (arith, same, sum_by-cons f y ys)
one_of f (y ∷ ys) (suc k) x e = omega (arith, sum_by-cons f y ys, one_of f ys k x e)

as_many : {A : Type 0} (f : A → ℕ) (xs : List A) → ((k : ℕ) (x : A) → slice_get xs k ≡ Some x → 1 ≤ f x) →
    length xs ≤ sum_by f xs
as_many f [] h = omega arith
as_many f (y ∷ ys) h = omega (arith, h 0 y refl, sum_by-cons f y ys, as_many f ys (λ k. h (suc k)))

-- ---- objects

module _ (p : Typed) (w : WellTyped p) (room : HasRoom p) where
  sized : (k : ℕ) (g : GlobalDef) → slice_get p.globals k ≡ Some g → IsSized p g
  sized k g e =
      let fits = w.globals k g e in
      let is : size_in p.types g.of ≡ fits.extent.size = ap size_of_extent fits.own in
      let within = fits.complete.within in
      omega arith

  short : (k : ℕ) (l : Literal) → slice_get p.literals k ≡ Some l → length l.bytes ≤ size_limit
  short k l e =
      let statics = room.statics in
      omega (arith, statics, one_of literal_room p.literals k l e, owned_ge (length l.bytes))

  some_room : (k : ℕ) (g : GlobalDef) → slice_get p.globals k ≡ Some g → 1 ≤ global_room p.types g
  some_room k g e = rw (w.globals k g e).own (omega arith)

  pub few : length p.globals < 2 ^ 32
  few = let statics = room.statics in omega (arith, statics, as_many (global_room p.types) p.globals some_room)

  few_literals : length p.literals < 2 ^ 32
  few_literals =
      let statics = room.statics in
      omega (arith, statics, as_many literal_room p.literals (λ k l e. omega arith))

  owns_few : (t : Target) (n : ℕ) → OwnsBytes p t n → n ≤ 2 ^ 26
  owns_few (target.Global g) n owns =
      let within = owns.3.within in
      let size = owns.4 in
      omega (arith, owned_small owns.1.size (omega (arith, within)))
  owns_few (target.Literal k) n owns =
      let size = owns.2 in
      omega (arith, owned_small (length owns.0.bytes) (omega (arith, short k owns.0 owns.1)))
  owns_few (target.Fun f) n owns = let none = owns.1 in omega arith

  pub links_low : (k : ℕ) (g : GlobalDef) → slice_get p.globals k ≡ Some g → (j : ℕ) (l : Link) →
      slice_get g.links j ≡ Some l → l.low + l.length ≤ size_limit
  links_low k g e j l i =
      let link = (w.globals k g e).links j l i in
      let bounds = link.bounds in
      omega (arith, bounds, owns_few l.target link.target link.owns)

  pub begins : IsStartable p
  begins = record {
    sizes = sized;
    literals = short;
    few = few;
    few_literals = few_literals;
    links = λ k g e j l i. omega (arith, links_low k g e j l i);
  }

pub startable : (p : Typed) → Sound p → HasRoom p → IsStartable p
startable p sound room = begins p (well_typed p sound) room
