-- What is added to the lists of the scopes.
use Rattle.std.proofs.Common.{◌≡◌, ℕ, false, length, List, [], ◌∷◌, ◌++◌, Some, None, set, refl, sym, ap, subst, ◌∙◌}
use Rattle.std.specs.Prelude.{slice_get}
use Rattle.std.specs.Global.{Vec}
use Rattle.std.proofs.lemmas.List.{map_push, map-set}
use Rattle.c_tree.specs.declared.typed.Typed.{Typed}
use Rattle.c_tree.specs.declared.typed.VarDef.{VarDef}
use Rattle.c_tree.specs.Types.{Ty}
use Rattle.c_tree.specs.Views.{types_of}
use Rattle.c_tree.specs.Scopes as meant
use Rattle.c_tree.specs.Scopes.{State, LocalState, bind_name, with_changed}
use Rattle.c_tree.specs.Declarations.{new_local}
use Rattle.c_types.specs.declared.entries.Decl.{Decl}
use Rattle.c_types.specs.declared.scopes.Scopes.{Scopes}
use Rattle.c_types.specs.Naming.{IsNumber}
use Rattle.c_types.specs.Calls.{Given}
use Rattle.c_types.specs.Declares.{name_of}
use Rattle.c_types.specs.Stands.{Stands, Declared, var_kept, local_seen, declared_at, named}
use Rattle.c_types.proofs.Looking.{seen_length, seen_at}
use Rattle.c_types.proofs.Records.{seen_none}
use Rattle.c_types.specs.Retyped.{retyped}

pushed : {A : Type 0} (xs ys : List A) (x y : A) → xs ≡ ys → x ≡ y → xs ++ x ∷ [] ≡ ys ++ y ∷ []
pushed xs ys x y d f = cc

pub local_added : (sc : Scopes) (v : Vec VarDef) (p : Typed) (s : State) (x : VarDef) (y : LocalState) → Stands sc p s →
    v.items ≡ sc.locals.items ++ x ∷ [] → var_kept sc.file.now (types_of p.types) x ≡ local_seen y →
    Stands (record sc { locals = v }) p (record s { locals = s.locals ++ y ∷ [] })
local_added sc v p s x y h g e = record {
  scopes = h.scopes;
  tags = h.tags;
  tag_types = h.tag_types;
  kinds = h.kinds;
  tagged = h.tagged;
  members = h.members;
  objects = h.objects;
  globals = h.globals;
  begun = h.begun;
  routines = h.routines;
  locals = rw g (map_push (var_kept sc.file.now (types_of p.types)) sc.locals.items x ∙ pushed _ _ _ _ h.locals e
      ∙ sym (map_push local_seen s.locals y));
  int = h.int;
  linked = h.linked;
}

pub locals_same : (sc : Scopes) (v : Vec VarDef) (p : Typed) (s : State) → Stands sc p s → v.items ≡ sc.locals.items →
    Stands (record sc { locals = v }) p s
locals_same sc v p s h g = record {
  scopes = h.scopes;
  tags = h.tags;
  tag_types = h.tag_types;
  kinds = h.kinds;
  tagged = h.tagged;
  members = h.members;
  objects = h.objects;
  globals = h.globals;
  begun = h.begun;
  routines = h.routines;
  locals = rw g h.locals;
  int = h.int;
  linked = h.linked;
}

pub local_given : (sc sb : Scopes) (v : Vec VarDef) (p : Typed) (s : State) (d : Decl) (of : Ty) (k : ℕ) →
    Stands sc p s → named (types_of p.types) d.of ≡ Some of → k ≡ length sc.locals.items →
    Stands sb p (bind_name (name_of sc.file.now d).text (meant.Local k of) s) → sb.file.now ≡ sc.file.now →
    v.items ≡ sb.locals.items ++ record { name = d.name; pos = d.pos; of = d.of; simple = false } ∷ [] →
    Given (record sb { locals = v }) p (new_local (name_of sc.file.now d) of s) (IsNumber k)
local_given sc sb v p s d of k h e n b f g =
    let l : k ≡ length s.locals =
    n ∙ seen_length (var_kept sc.file.now (types_of p.types)) local_seen sc.locals.items s.locals h.locals in
    let t = name_of sc.file.now d in
    let z : LocalState = record { name = t; of = of; addressed = false } in
    record {
      value = length s.locals;
      state = bind_name t.text (meant.Local (length s.locals) of) (record s { locals = s.locals ++ z ∷ [] });
      is = refl;
      stands = rw (← l) (local_added sb v p (bind_name t.text (meant.Local k of) s) _ z b g
          (rw f (ap (λ o. record (declared_at sc.file.now (types_of p.types) d.name d.pos d.of) { of = o }) e)));
      fits = sym l;
    }

pub locals_taken : (sc : Scopes) (v : Vec VarDef) (p : Typed) (s : State) → Stands sc p s → v.items ≡ [] →
    Stands (record sc { locals = v }) p (record s { locals = [] })
locals_taken sc v p s h g = record {
  scopes = h.scopes;
  tags = h.tags;
  tag_types = h.tag_types;
  kinds = h.kinds;
  tagged = h.tagged;
  members = h.members;
  objects = h.objects;
  globals = h.globals;
  begun = h.begun;
  routines = h.routines;
  locals = rw g refl;
  int = h.int;
  linked = h.linked;
}

same_set : {A : Type 0} (xs ys : List A) (n : ℕ) (x y : A) → xs ≡ ys → x ≡ y → set xs n x ≡ set ys n y
same_set xs ys n x y d f = cc

-- a local with another type
pub local_retyped : (sc : Scopes) (v : Vec VarDef) (p : Typed) (s : State) (k : ℕ) (x : VarDef) (of : ℕ) (u : Ty) →
    Stands sc p s → named (types_of p.types) of ≡ Some u → slice_get sc.locals.items k ≡ Some x →
    v.items ≡ set sc.locals.items k (record x { of = of }) →
    Stands (record sc { locals = v }) p (record s { locals = retyped u s.locals k })
local_retyped sc v p s k x of u h e g i =
    let kept = var_kept sc.file.now (types_of p.types) in
    let y = seen_at kept local_seen sc.locals.items s.locals k x h.locals g in
    let z : LocalState = record y.0 { of = u } in
    let c : retyped u s.locals k ≡ set s.locals k z =
    ap (λ o. with_changed (λ (w : LocalState). record w { of = u }) o s.locals k) y.1 in
    let w : kept (record x { of = of }) ≡ local_seen z =
    ap (λ (d : Declared). record d { of = named (types_of p.types) of }) y.2
    ∙ ap (λ o. record (local_seen y.0) { of = o }) e in
    record {
      scopes = h.scopes;
      tags = h.tags;
      tag_types = h.tag_types;
      kinds = h.kinds;
      tagged = h.tagged;
      members = h.members;
      objects = h.objects;
      globals = h.globals;
      begun = h.begun;
      routines = h.routines;
      locals = rw (c, i) (map-set kept sc.locals.items k (record x { of = of }) ∙ same_set _ _ k _ _ h.locals w
          ∙ sym (map-set local_seen s.locals k z));
      int = h.int;
      linked = h.linked;
    }

pub local_missing : (sc : Scopes) (p : Typed) (s : State) (k : ℕ) (u : Ty) → Stands sc p s →
    slice_get sc.locals.items k ≡ None → Stands sc p (record s { locals = retyped u s.locals k })
local_missing sc p s k u h g =
    let f : slice_get s.locals k ≡ None =
    seen_none (var_kept sc.file.now (types_of p.types)) local_seen sc.locals.items s.locals k h.locals g in
    let c : s.locals ≡ retyped u s.locals k =
    sym (ap (λ o. with_changed (λ (w : LocalState). record w { of = u }) o s.locals k) f) in
    subst (λ vs. Stands sc p (record s { locals = vs })) c h
