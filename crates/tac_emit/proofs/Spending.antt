-- What code that is added takes, added up.
use Rattle.std.proofs.Common.{◌≡◌, ℕ, ◌+◌, ◌≤◌, true, List, [], ◌∷◌, ◌++◌}
use Rattle.std.proofs.Common.{length, max, Option, None}
use Rattle.std.proofs.Common.{refl, sym, ap, ◌∙◌, arith, length-append, append-nil, append_assoc}
use Rattle.std.specs.Prelude.{◌==◌, if◌then◌else◌, flat_map}
use Rattle.std.proofs.lemmas.Bool.Decides.{nat_tests}
use Rattle.std.specs.List.{sum_by}
use Rattle.std.proofs.lemmas.List.Sums.{sum_by_push, sum_by-append, sum_by-cons}
use Rattle.ck_int.specs.declared.kinds.IntKind.{IntKind}
use Rattle.ck_int.specs.declared.kinds.IntKind.TheVariants as int
use Rattle.tac_ir.specs.Costs.{cost, conversion_cost, operation_cost, outgoing, outgoing_by}
use Rattle.c_tree.specs.Views.{times_in}
use Rattle.tac_ir.specs.Temps.{locals, zeros}
use Rattle.tac_ir.specs.Within.{copied_parts}
use Rattle.tac_ir.specs.declared.code.TacInstr.{TacInstr}
use Rattle.tac_ir.specs.declared.code.TacInstr.TheVariants as instr
use Rattle.tac_ir.specs.declared.code.TacKind.{TacKind}
use Rattle.tac_ir.specs.declared.code.TacKind.TheVariants as kind
use Rattle.tac_emit.specs.declared.emitter.Emitter.{Emitter}
use Rattle.tac_emit.specs.Emitted.{Made, Pushed, Labelled, Forked, Entered, IsWide, is_capability}
use Rattle.tac_emit.specs.Spent.{places, words, copying, zeroing, lone, Takes, Spent, Enters, no_zeros}
use Rattle.tac_emit.specs.Lone.{zeroed_by, is_lone, lone_behind}

-- ---- one instruction, temp or label

max_more : (a b c d : ℕ) → b ≤ c + d → max a b ≤ max a c + d
max_more a b c d h = omega (arith, h)

outgoing_push : (is : List TacInstr) (i : TacInstr) → outgoing (is ++ i ∷ []) ≤ outgoing is + outgoing_by i
outgoing_push [] i = omega arith
outgoing_push (j ∷ js) i =
    max_more (outgoing_by j) (outgoing (js ++ i ∷ [])) (outgoing js) (outgoing_by i) (outgoing_push js i)

-- code that ends with a Zero of a local, if it does
abbrev last_zero : Option ℕ → List TacInstr → Option ℕ
last_zero z [] = z
last_zero z (i ∷ is) = last_zero (zeroed_by i) is

lone_push : (z : Option ℕ) (is : List TacInstr) (i : TacInstr) →
    lone_behind z (is ++ i ∷ []) ≡ lone_behind z is + is_lone (last_zero z is) i
lone_push z [] i = omega arith
lone_push z (j ∷ is) i = omega (arith, lone_push (zeroed_by j) is i)

last_push : (z : Option ℕ) (is : List TacInstr) (i : TacInstr) → last_zero z (is ++ i ∷ []) ≡ zeroed_by i
last_push z [] i = refl
last_push z (j ∷ is) i = last_push (zeroed_by j) is i

-- one that makes no pointer to a local
not_lone : (z : Option ℕ) (i : TacInstr) → locals i ≡ [] → is_lone z i ≡ 0
not_lone z (instr.Local to w) h = absurd cc
not_lone z i h = refl

zeros_push : (is : List TacInstr) (i : TacInstr) → flat_map zeros (is ++ i ∷ []) ≡ flat_map zeros is ++ zeros i
zeros_push [] i = append-nil (zeros i)
zeros_push (j ∷ is) i = ap (λ z. zeros j ++ z) (zeros_push is i)
    ∙ sym (append_assoc (zeros j) (flat_map zeros is) (zeros i))

pub pushed_spent : (a b : Emitter) (i : TacInstr) → Pushed a b i → locals i ≡ [] → zeros i ≡ [] →
    Takes a b (outgoing_by i) (cost i) (copied_parts i)
unfolding places words copying zeroing lone
pushed_spent a b i h other none = record {
  grows = omega (arith, ap length h.kinds);
  places = omega (arith, ap length h.kinds, ap outgoing h.code, outgoing_push a.code.items i);
  words = omega (arith, ap (sum_by cost) h.code, sum_by_push cost a.code.items i);
  copies = omega (arith, ap (sum_by copied_parts) h.code, sum_by_push copied_parts a.code.items i);
  zeros = ap (flat_map zeros) h.code ∙ zeros_push a.code.items i ∙ ap (λ z. flat_map zeros a.code.items ++ z) none
      ∙ append-nil (flat_map zeros a.code.items);
  lone =
      omega (
        arith,
        ap (lone_behind None) h.code,
        lone_push None a.code.items i,
        not_lone (last_zero None a.code.items) i other,
      );
}

-- an operation of 64 bits, and the address of a capability
pub wide_cost : (k : IntKind) → IsWide (kind.Int k) → operation_cost k ≡ 11
wide_cost int.I64 w = refl
wide_cost int.U64 w = refl
wide_cost k w = absurd w

pub address_cost : (j k : TacKind) → is_capability j ≡ true → IsWide k → conversion_cost j k ≡ 7
address_cost (kind.Int i) k h w = absurd cc
address_cost (kind.Cap s) (kind.Int int.I64) h w = refl
address_cost (kind.Cap s) (kind.Int int.U64) h w = refl
address_cost (kind.Cap s) k h w = absurd w

-- an object becomes zero, and the pointer to it is made
pub entered_spent : {a b : Emitter} {to v : ℕ} → Entered a b to v → Enters a b 0 19 0 (λ w. if v == w then 1 else 0)
unfolding places words copying zeroing lone
entered_spent {a = a} {to = to} {v = v} h =
    let is = a.code.items in
    let js = h.middle.code.items in
    let i : TacInstr = instr.Zero v in
    let j : TacInstr = instr.Local to v in
    let here : (v == v) ≡ true = grind (arith, nat_tests) in
    let all = ap (flat_map zeros) h.points.code ∙ zeros_push js j
    ∙ append-nil (flat_map zeros js) ∙ ap (flat_map zeros) h.zero.code ∙ zeros_push is i in
    record {
      grows = omega (arith, ap length h.zero.kinds, ap length h.points.kinds);
      places = omega (
        arith,
        ap length h.zero.kinds,
        ap length h.points.kinds,
        ap outgoing h.zero.code,
        ap outgoing h.points.code,
        outgoing_push is i,
        outgoing_push js j,
      );
      words = omega (
        arith,
        ap (sum_by cost) h.zero.code,
        ap (sum_by cost) h.points.code,
        sum_by_push cost is i,
        sum_by_push cost js j,
      );
      copies = omega (
        arith,
        ap (sum_by copied_parts) h.zero.code,
        ap (sum_by copied_parts) h.points.code,
        sum_by_push copied_parts is i,
        sum_by_push copied_parts js j,
      );
      zeros = λ w. omega (
        arith,
        ap (times_in w) all,
        sum_by-append (λ x. if x == w then 1 else 0) (flat_map zeros is) (v ∷ []),
        sum_by-cons (λ x. if x == w then 1 else 0) v [],
      );
      lone = omega (
        arith,
        ap (lone_behind None) h.zero.code,
        lone_push None is i,
        ap (lone_behind None) h.points.code,
        lone_push None js j,
        ap (λ z. is_lone (last_zero None z) j) h.zero.code,
        ap (λ z. is_lone z j) (last_push None is i),
        ap {B = ℕ} (λ z. if z then 0 else 1) here,
      );
    }

pub made_spent : (a b : Emitter) (k : TacKind) → Made a b k → Spent a b 1 0
unfolding places words copying zeroing lone
made_spent a b k h = record {
  grows = omega (arith, ap length h.kinds, length-append a.kinds.items (k ∷ []));
  places = omega (arith, ap length h.kinds, length-append a.kinds.items (k ∷ []), ap outgoing h.code);
  words = omega (arith, ap (sum_by cost) h.code);
  copies = omega (arith, ap (sum_by copied_parts) h.code);
  zeros = ap (flat_map zeros) h.code;
  lone = omega (arith, ap (lone_behind None) h.code);
}

pub labelled_spent : {a b : Emitter} {l : ℕ} → Labelled a b l → Spent a b 0 0
unfolding places words copying zeroing lone
labelled_spent h = record {
  grows = omega (arith, ap length h.kinds);
  places = omega (arith, ap length h.kinds, ap outgoing h.code);
  words = omega (arith, ap (sum_by cost) h.code);
  copies = omega (arith, ap (sum_by copied_parts) h.code);
  zeros = ap (flat_map zeros) h.code;
  lone = omega (arith, ap (lone_behind None) h.code);
}

-- ---- in steps

pub spent_same : (a : Emitter) (n : ℕ) → Spent a a 0 n
spent_same a n = record {
  grows = omega arith;
  places = omega arith;
  words = omega arith;
  copies = omega arith;
  zeros = refl;
  lone = omega arith;
}

pub takes_then : {a b c : Emitter} {m n u k l v : ℕ} → Takes a b m n u → Takes b c k l v →
    Takes a c (m + k) (n + l) (u + v)
takes_then f g = record {
  grows = omega (arith, f.grows, g.grows);
  places = omega (arith, f.places, g.places);
  words = omega (arith, f.words, g.words);
  copies = omega (arith, f.copies, g.copies);
  zeros = g.zeros ∙ f.zeros;
  lone = omega (arith, f.lone, g.lone);
}

pub takes_within : {a b : Emitter} {m n u k l v : ℕ} → Takes a b m n u → m ≤ k → n ≤ l → u ≤ v → Takes a b k l v
takes_within f i j h = record {
  grows = f.grows;
  places = omega (arith, f.places, i);
  words = omega (arith, f.words, j);
  copies = omega (arith, f.copies, h);
  zeros = f.zeros;
  lone = f.lone;
}

pub spent_then : {a b c : Emitter} {m n k l : ℕ} → Spent a b m n → Spent b c k l → Spent a c (m + k) (n + l)
spent_then f g = takes_then f g

pub spent_within : {a b : Emitter} {m n k l : ℕ} → Spent a b m n → m ≤ k → n ≤ l → Spent a b k l
spent_within f i j = takes_within f i j (omega arith)

-- ---- with code that lets objects become zero

pub taken_enters : {a b : Emitter} {m n u : ℕ} → Takes a b m n u → Enters a b m n u no_zeros
taken_enters f = record {
  grows = f.grows;
  places = f.places;
  words = f.words;
  copies = f.copies;
  zeros = λ w. omega (arith, ap (times_in w) f.zeros);
  lone = f.lone;
}

pub enters_then : {a b c : Emitter} {m n u k l v : ℕ} {x y : ℕ → ℕ} → Enters a b m n u x → Enters b c k l v y →
    Enters a c (m + k) (n + l) (u + v) (λ w. x w + y w)
enters_then f g = record {
  grows = omega (arith, f.grows, g.grows);
  places = omega (arith, f.places, g.places);
  words = omega (arith, f.words, g.words);
  copies = omega (arith, f.copies, g.copies);
  zeros = λ w. omega (arith, f.zeros w, g.zeros w);
  lone = omega (arith, f.lone, g.lone);
}

pub enters_within : {a b : Emitter} {m n u k l v : ℕ} {x y : ℕ → ℕ} → Enters a b m n u x → m ≤ k → n ≤ l → u ≤ v →
    ((w : ℕ) → x w ≤ y w) → Enters a b k l v y
enters_within f i j h q = record {
  grows = f.grows;
  places = omega (arith, f.places, i);
  words = omega (arith, f.words, j);
  copies = omega (arith, f.copies, h);
  zeros = λ w. omega (arith, f.zeros w, q w);
  lone = f.lone;
}

pub forked_spent : {a b : Emitter} {l m : ℕ} → Forked a b l m → Spent a b 0 0
forked_spent h = spent_then (labelled_spent h.first) (labelled_spent h.second)
