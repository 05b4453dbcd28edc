-- Types are written behind what they name.
use Rattle.std.proofs.Common.{◌≡◌, ℕ, zero, suc, ◌+◌, ◌<◌, ◌≤◌, List, [], ◌∷◌, ◌++◌, length, map, Option, Some, None}
use Rattle.std.proofs.Common.{refl, sym, ap, subst, ◌∙◌, ⊎_elim, arith, length-append}
use Rattle.std.specs.Prelude.{slice_get, flat_map}
use Rattle.std.proofs.lemmas.Option.{none-some, slice_get_within}
use Rattle.ck_base.specs.declared.positions.Span.{Span}
use Rattle.c_tree.specs.declared.syntax.RecordKind.{RecordKind}
use Rattle.c_tree.specs.declared.syntax.RecordKind.TheVariants as record_kinds
use Rattle.c_tree.specs.declared.typed.CType.{CType}
use Rattle.c_tree.specs.declared.typed.CType.TheVariants as ctypes
use Rattle.c_tree.specs.declared.typed.Member.{Member}
use Rattle.c_tree.specs.Types.{Ty, Void, Int, Cap, Pointer, Array, Tagged, Function, Const, Tys, no_types, also}
use Rattle.c_tree.specs.Terms.{Tag}
use Rattle.c_tree.specs.Views.{grow, tys, type_from, types_of, type_at, member_of, TagAgrees, Below}
use Rattle.c_tree.proofs.Forest.{forest_reads}
use Rattle.c_copy.specs.Copying.{Extends}
use Rattle.c_copy.proofs.Copies.{grow-append, at_seam, forest_front, extends_same, extends_then, extends_push}
use Rattle.written_programs.specs.Writable.{Every, TagsBelow, AllTagsBelow, member_types, tag_types}
use Rattle.written_programs.proofs.Lists.{every_at, every_more, every_split, push_each, get-split, get-behind}
use Rattle.written_programs.proofs.Lists.{cons_same}

-- ---- lists of types

-- a type behind the tags names types before it
abbrev IsPlain : ℕ → CType → Type 0
IsPlain k (ctypes.Struct tag ms) = ⊥
IsPlain k (ctypes.Union tag ms) = ⊥
IsPlain k (ctypes.Incomplete tag) = ⊥
IsPlain k c = Below 0 k c

-- the first n types are those of the tags
record IsTypes (n : ℕ) (cs : List CType) : Type 0 where
  pub long : n ≤ length cs
  pub heads : (k : ℕ) → k < n → type_at (types_of cs) k ≡ Tagged k
  pub plain : (k : ℕ) (c : CType) → slice_get cs k ≡ Some c → n ≤ k → IsPlain k c

-- a type stands in the list
pub record Has (cs : List CType) (t : Ty) : Type 0 where
  pub number : ℕ
  pub here : number < length cs
  pub is : type_at (types_of cs) number ≡ t

has_kept : (cs ds : List CType) (t : Ty) → Extends cs ds → Has cs t → Has ds t
has_kept cs ds t x h = record {
  number = h.number;
  here = omega (arith, h.here, ap length x.1, length-append cs x.0);
  is = ap (λ zs. type_at (types_of zs) h.number) x.1
      ∙ forest_front type_from Void cs x.0 h.number h.here
      ∙ h.is;
}

-- the list goes on to one with the type
record TypeIn (n : ℕ) (cs : List CType) (t : Ty) : Type 0 where
  pub new : List CType
  pub more : Extends cs new
  pub fine : IsTypes n new
  pub has : Has new t

record TypesIn (n : ℕ) (cs : List CType) (ts : Tys) : Type 0 where
  pub new : List CType
  pub more : Extends cs new
  pub fine : IsTypes n new
  pub numbers : List ℕ
  pub here : Every (λ k. k < length new) numbers
  pub are : tys (map (type_at (types_of new)) numbers) ≡ ts

record AllIn (n : ℕ) (cs : List CType) (ts : List Ty) : Type 0 where
  pub new : List CType
  pub more : Extends cs new
  pub fine : IsTypes n new
  pub has : Every (Has new) ts

push_type : (n : ℕ) (cs ds : List CType) (c : CType) (t : Ty) → Extends cs ds → IsTypes n ds → IsPlain (length ds) c →
    type_from c (type_at (types_of ds)) ≡ t → TypeIn n cs t
push_type n cs ds c t x f p e =
    let l = length-append ds (c ∷ []) in
    record {
      new = ds ++ c ∷ [];
      more = extends_push cs ds (ds ++ c ∷ []) c x refl;
      fine = record {
        long = omega (arith, l, f.long);
        heads = λ k lt. forest_front type_from Void ds (c ∷ []) k (omega (arith, lt, f.long)) ∙ f.heads k lt;
        plain = push_each (λ k d. n ≤ k → IsPlain k d) ds c f.plain (λ _. p);
      };
      has = record { number = length ds; here = omega (arith, l); is = at_seam type_from Void ds c [] ∙ e };
    }

also_same : (s t : Ty) (ss ts : Tys) → s ≡ t → ss ≡ ts → also s ss ≡ also t ts
also_same s t ss ts e f = cc

function_same : (r s : Ty) (ps qs : Tys) → r ≡ s → ps ≡ qs → Function r ps ≡ Function s qs
function_same r s ps qs e f = cc

mutual
  write_type : (n : ℕ) (t : Ty) (cs : List CType) → IsTypes n cs → TagsBelow n t → TypeIn n cs t
  write_type n Void cs f h = push_type n cs cs ctypes.Void Void (extends_same cs) f tt refl
  write_type n (Int k m) cs f h = push_type n cs cs (ctypes.Int k m) (Int k m) (extends_same cs) f tt refl
  write_type n (Cap s) cs f h = push_type n cs cs (ctypes.Cap s) (Cap s) (extends_same cs) f tt refl
  write_type n (Pointer t) cs f h =
      let a = write_type n t cs f h in
      push_type n cs a.new (ctypes.Pointer a.has.number) (Pointer t) a.more a.fine a.has.here (ap Pointer a.has.is)
  write_type n (Array t m) cs f h =
      let a = write_type n t cs f h in
      push_type n cs a.new (ctypes.Array a.has.number m) (Array t m) a.more a.fine a.has.here
      (ap (λ u. Array u m) a.has.is)
  write_type n (Tagged k) cs f h = record {
    new = cs;
    more = extends_same cs;
    fine = f;
    has = record { number = k; here = omega (arith, h, f.long); is = f.heads k h };
  }
  write_type n (Function r ps) cs f h =
      let a = write_type n r cs f h.0 in
      let b = write_types n ps a.new a.fine h.1 in
      let g = has_kept a.new b.new r b.more a.has in
      push_type n cs b.new (ctypes.Function g.number b.numbers) (Function r ps)
      (extends_then cs a.new b.new a.more b.more) b.fine
      (g.here, every_at (λ k. k < length b.new) b.numbers b.here)
      (function_same (type_at (types_of b.new) g.number) r (tys (map (type_at (types_of b.new)) b.numbers)) ps g.is
      b.are)
  write_type n (Const t) cs f h =
      let a = write_type n t cs f h in
      push_type n cs a.new (ctypes.Const a.has.number) (Const t) a.more a.fine a.has.here (ap Const a.has.is)

  write_types : (n : ℕ) (ts : Tys) (cs : List CType) → IsTypes n cs → AllTagsBelow n ts → TypesIn n cs ts
  write_types n no_types cs f h = record {
    new = cs;
    more = extends_same cs;
    fine = f;
    numbers = [];
    here = tt;
    are = refl;
  }
  write_types n (also t ts) cs f h =
      let a = write_type n t cs f h.0 in
      let b = write_types n ts a.new a.fine h.1 in
      let g = has_kept a.new b.new t b.more a.has in
      record {
        new = b.new;
        more = extends_then cs a.new b.new a.more b.more;
        fine = b.fine;
        numbers = g.number ∷ b.numbers;
        here = (g.here, b.here);
        are = also_same (type_at (types_of b.new) g.number) t (tys (map (type_at (types_of b.new)) b.numbers)) ts g.is
            b.are;
      }

write_all : (n : ℕ) (ts : List Ty) (cs : List CType) → IsTypes n cs → Every (TagsBelow n) ts → AllIn n cs ts
write_all n [] cs f h = record { new = cs; more = extends_same cs; fine = f; has = tt }
write_all n (t ∷ ts) cs f h =
    let a = write_type n t cs f h.0 in
    let b = write_all n ts a.new a.fine h.1 in
    record {
      new = b.new;
      more = extends_then cs a.new b.new a.more b.more;
      fine = b.fine;
      has = (has_kept a.new b.new t b.more a.has, b.has);
    }

-- ---- the types of tags, without members at first

unfoldable begun : ℕ → List Tag → List CType
begun k [] = []
begun k (t ∷ ts) = ctypes.Incomplete k ∷ begun (suc k) ts

begun_length : (k : ℕ) (ts : List Tag) → length (begun k ts) ≡ length ts
unfolding begun
begun_length k [] = refl
begun_length k (t ∷ ts) = ap suc (begun_length (suc k) ts)

begun_at : (k : ℕ) (ts : List Tag) (j m : ℕ) → j < length ts → m ≡ k + j →
    slice_get (begun k ts) j ≡ Some (ctypes.Incomplete m)
unfolding begun
begun_at k [] j m l e = absurd (omega (arith, l))
begun_at k (t ∷ ts) zero m l e = ap (λ i. Some (ctypes.Incomplete i)) (omega (arith, e))
begun_at k (t ∷ ts) (suc j) m l e = begun_at (suc k) ts j m (omega (arith, l)) (omega (arith, e))

begin_types : (ts : List Tag) → IsTypes (length ts) (begun 0 ts)
begin_types ts =
    let l = begun_length 0 ts in
    record {
      long = omega (arith, l);
      heads = λ k lt.
          let r = forest_reads type_from Void (begun 0 ts) k (ctypes.Incomplete k)
          (begun_at 0 ts k k lt (omega arith)) in r.is;
      plain = λ k c e le. absurd (let i = slice_get_within (begun 0 ts) k c e in omega (arith, l, i, le));
    }

-- ---- and with them

record MembersIn (cs : List CType) (ms : List (Span × Ty)) : Type 0 where
  pub members : List Member
  pub are : map (member_of (types_of cs)) members ≡ ms
  pub here : Every (λ (m : Member). m.of < length cs) members

write_members : (cs : List CType) (ms : List (Span × Ty)) → Every (Has cs) (map (λ (m : Span × Ty). m.1) ms) →
    MembersIn cs ms
write_members cs [] h = record { members = []; are = refl; here = tt }
write_members cs (m ∷ ms) h =
    let r = write_members cs ms h.1 in
    let w : Member = record { name = m.0; of = h.0.number } in
    let e : member_of (types_of cs) w ≡ m = ap (λ (t : Ty). let z : Span × Ty = (m.0, t) in z) h.0.is in
    record {
      members = w ∷ r.members;
      are = cons_same (member_of (types_of cs) w) m (map (member_of (types_of cs)) r.members) ms e r.are;
      here = (h.0.here, r.here);
    }

-- the type of one tag
record HeadOf (cs : List CType) (k : ℕ) (t : Tag) : Type 0 where
  pub head : CType
  pub from : (go : ℕ → Ty) → type_from head go ≡ Tagged k
  pub agrees : (tags : List Tag) → slice_get tags k ≡ Some t → TagAgrees (types_of cs) tags head
  pub below : (i : ℕ) → Below (length cs) i head

write_head : (cs : List CType) (k : ℕ) (kind : RecordKind) (ms : Option (List (Span × Ty))) →
    Every (Has cs) (member_types ms) → HeadOf cs k (record { kind = kind; members = ms })
write_head cs k kind None h = record {
  head = ctypes.Incomplete k;
  from = λ go. refl;
  agrees = λ tags e. (_, e, refl);
  below = λ i. tt;
}
write_head cs k record_kinds.Struct (Some ms) h =
    let m = write_members cs ms h in
    record {
      head = ctypes.Struct k m.members;
      from = λ go. refl;
      agrees = λ tags e. e ∙ ap (λ (xs : List (Span × Ty)).
          let t : Tag = record { kind = record_kinds.Struct; members = Some xs } in Some t) (sym m.are);
      below = λ i j x e. every_at (λ (m : Member). m.of < length cs) m.members m.here j x e;
    }
write_head cs k record_kinds.Union (Some ms) h =
    let m = write_members cs ms h in
    record {
      head = ctypes.Union k m.members;
      from = λ go. refl;
      agrees = λ tags e. e ∙ ap (λ (xs : List (Span × Ty)).
          let t : Tag = record { kind = record_kinds.Union; members = Some xs } in Some t) (sym m.are);
      below = λ i j x e. every_at (λ (m : Member). m.of < length cs) m.members m.here j x e;
    }

abbrev StandFrom : ℕ → List Tag → List Tag → Type 0
StandFrom k tags all = (i : ℕ) (t : Tag) → slice_get tags i ≡ Some t → slice_get all (k + i) ≡ Some t

-- those of all
record HeadsOf (cs : List CType) (k : ℕ) (tags : List Tag) : Type 0 where
  pub heads : List CType
  pub long : length heads ≡ length tags
  pub grown : (us : List Ty) → grow type_from Void heads us ≡ grow type_from Void (begun k tags) us
  pub agree : (all : List Tag) → StandFrom k tags all → (j : ℕ) (c : CType) → slice_get heads j ≡ Some c →
      TagAgrees (types_of cs) all c
  pub below : (j : ℕ) (c : CType) → slice_get heads j ≡ Some c → (i : ℕ) → Below (length cs) i c

some_is : {A : Type 0} (x y : A) → Some x ≡ Some y → x ≡ y
some_is x y e = cc

heads_agree : (cs : List CType) (k : ℕ) (t : Tag) (ts : List Tag) (h : HeadOf cs k t) (r : HeadsOf cs (suc k) ts)
    (all : List Tag) → StandFrom k (t ∷ ts) all → (j : ℕ) (c : CType) → slice_get (h.head ∷ r.heads) j ≡ Some c →
    TagAgrees (types_of cs) all c
heads_agree cs k t ts h r all s zero c e =
    let z : k + 0 ≡ k = omega arith in
    subst (TagAgrees (types_of cs) all) (some_is h.head c e)
    (h.agrees all (ap (slice_get all) (sym z) ∙ s 0 t refl))
heads_agree cs k t ts h r all s (suc j) c e =
    r.agree all (λ i u q. ap (slice_get all) (omega arith) ∙ s (suc i) u q) j c e

heads_below : (cs : List CType) (k : ℕ) (t : Tag) (ts : List Tag) (h : HeadOf cs k t) (r : HeadsOf cs (suc k) ts)
    (j : ℕ) (c : CType) → slice_get (h.head ∷ r.heads) j ≡ Some c → (i : ℕ) → Below (length cs) i c
heads_below cs k t ts h r zero c e i = subst (Below (length cs) i) (some_is h.head c e) (h.below i)
heads_below cs k t ts h r (suc j) c e i = r.below j c e i

one_more : (c : CType) (cs : List CType) (k : ℕ) (us : List Ty) → ((go : ℕ → Ty) → type_from c go ≡ Tagged k) →
    grow type_from Void (c ∷ cs) us ≡ grow type_from Void cs (us ++ Tagged k ∷ [])
unfolding grow
one_more c cs k us f = ap (λ t. grow type_from Void cs (us ++ t ∷ [])) (f (type_at us))

begun_more : (k : ℕ) (t : Tag) (ts : List Tag) (us : List Ty) →
    grow type_from Void (begun k (t ∷ ts)) us ≡ grow type_from Void (begun (suc k) ts) (us ++ Tagged k ∷ [])
unfolding begun
begun_more k t ts us = one_more (ctypes.Incomplete k) (begun (suc k) ts) k us (λ go. refl)

nothing_begun : (k : ℕ) (us : List Ty) → grow type_from Void [] us ≡ grow type_from Void (begun k []) us
unfolding begun
nothing_begun k us = refl

write_heads : (cs : List CType) (k : ℕ) (tags : List Tag) → Every (Has cs) (flat_map tag_types tags) →
    HeadsOf cs k tags
write_heads cs k [] h = record {
  heads = [];
  long = refl;
  grown = nothing_begun k;
  agree = λ all s j c e. absurd (none-some c e);
  below = λ j c e. absurd (none-some c e);
}
write_heads cs k (t ∷ ts) h =
    let p = every_split (Has cs) (tag_types t) (flat_map tag_types ts) h in
    let a = write_head cs k t.kind t.members p.0 in
    let r = write_heads cs (suc k) ts p.1 in
    record {
      heads = a.head ∷ r.heads;
      long = ap suc r.long;
      grown = λ us. one_more a.head r.heads k us a.from
          ∙ r.grown (us ++ Tagged k ∷ [])
          ∙ sym (begun_more k t ts us);
      agree = heads_agree cs k t ts a r;
      below = heads_below cs k t ts a r;
    }

-- ---- the types of a program

plain_below : (n k : ℕ) (c : CType) → IsPlain k c → Below n k c
plain_below n k ctypes.Void h = tt
plain_below n k (ctypes.Int i m) h = tt
plain_below n k (ctypes.Cap s) h = tt
plain_below n k (ctypes.Pointer t) h = h
plain_below n k (ctypes.Array t m) h = h
plain_below n k (ctypes.Struct tag ms) h = absurd h
plain_below n k (ctypes.Union tag ms) h = absurd h
plain_below n k (ctypes.Function t ps) h = h
plain_below n k (ctypes.Const t) h = h
plain_below n k (ctypes.Incomplete tag) h = absurd h

plain_agrees : (ts : List Ty) (tags : List Tag) (k : ℕ) (c : CType) → IsPlain k c → TagAgrees ts tags c
plain_agrees ts tags k (ctypes.Struct tag ms) h = absurd h
plain_agrees ts tags k (ctypes.Union tag ms) h = absurd h
plain_agrees ts tags k (ctypes.Incomplete tag) h = absurd h
plain_agrees ts tags k c h = tt

-- the list that a program's types are written in
pub record TypesOf (tags : List Tag) (ts : List Ty) : Type 0 where
  pub types : List CType
  pub agree : (k : ℕ) (c : CType) → slice_get types k ≡ Some c → TagAgrees (types_of types) tags c
  pub below : (k : ℕ) (c : CType) → slice_get types k ≡ Some c → Below (length types) k c
  pub has : Every (Has types) ts

has_moved : (cs ds : List CType) → length cs ≡ length ds → types_of ds ≡ types_of cs → (t : Ty) → Has cs t → Has ds t
has_moved cs ds l e t h = record {
  number = h.number;
  here = omega (arith, h.here, l);
  is = ap (λ us. type_at us h.number) e ∙ h.is;
}

-- the types of tags and others, behind what is begun
abbrev AllTypes : List Tag → List Ty → Type 0
AllTypes tags ts = AllIn (length tags) (begun 0 tags) (flat_map tag_types tags ++ ts)

module _ (tags : List Tag) (ts : List Ty) (all : AllTypes tags ts) where
  abbrev cs : List CType
  cs = all.new

  abbrev rest : List CType
  rest = all.more.0

  halves : Every (Has cs) (flat_map tag_types tags) × Every (Has cs) ts
  halves = every_split (Has cs) (flat_map tag_types tags) ts all.has

  heads : HeadsOf cs 0 tags
  heads = write_heads cs 0 tags halves.0

  abbrev types : List CType
  types = heads.heads ++ rest

  same_types : types_of types ≡ types_of cs
  same_types = grow-append type_from Void heads.heads rest []
      ∙ ap (grow type_from Void rest) (heads.grown [])
      ∙ sym (grow-append type_from Void (begun 0 tags) rest [])
      ∙ ap types_of (sym all.more.1)

  same_length : length cs ≡ length types
  same_length =
      let a = length-append (begun 0 tags) rest in
      let b = length-append heads.heads rest in
      let c = begun_length 0 tags in
      let d = heads.long in
      let e = ap length all.more.1 in
      omega (arith, a, b, c, d, e)

  -- a type behind the tags
  behind : (j k : ℕ) (c : CType) → k ≡ length heads.heads + j → slice_get rest j ≡ Some c → IsPlain k c
  behind j k c e g =
      let l = begun_length 0 tags in
      let m = heads.long in
      let at : slice_get cs k ≡ Some c = ap (λ xs. slice_get xs k) all.more.1
      ∙ get-behind (begun 0 tags) rest k j (omega (arith, e, l, m)) ∙ g in
      all.fine.plain k c at (omega (arith, e, m))

  types_written : TypesOf tags ts
  types_written = record {
    types = types;
    agree = λ k c e. ⊎_elim
        (λ h. subst (λ us. TagAgrees us tags c) (sym same_types) (heads.agree tags
        (λ i t q. let z : 0 + i ≡ i = omega arith in ap (slice_get tags) z ∙ q) k c h))
        (λ h. plain_agrees (types_of types) tags k c (behind h.0 k c h.1 h.2))
        (get-split heads.heads rest k c e);
    below = λ k c e. ⊎_elim
        (λ h. subst (λ n. Below n k c) same_length (heads.below k c h k))
        (λ h. plain_below (length types) k c (behind h.0 k c h.1 h.2))
        (get-split heads.heads rest k c e);
    has = every_more (Has cs) (Has types) ts (has_moved cs types same_length same_types) halves.1;
  }

pub write_program_types : (tags : List Tag) (ts : List Ty) →
    Every (TagsBelow (length tags)) (flat_map tag_types tags ++ ts) → TypesOf tags ts
write_program_types tags ts h =
    types_written tags ts
    (write_all (length tags) (flat_map tag_types tags ++ ts) (begun 0 tags) (begin_types tags) h)
