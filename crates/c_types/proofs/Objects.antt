-- Objects of static storage duration that are declared.
use Rattle.std.proofs.Common.{◌≡◌, ℕ, ◌+◌, ◌<◌, Bool, true, false, cond, length, List, [], ◌∷◌, ◌++◌}
use Rattle.std.proofs.Common.{Option, Some, None, refl, sym, ap, subst, ◌∙◌, arith}
use Rattle.std.specs.Prelude.{◌&&◌, ◌||◌, bytes_eq, slice_get}
use Rattle.std.specs.Map.{lookup}
use Rattle.std.specs.Global.{Vec}
use Rattle.std.proofs.lemmas.List.{map_push, length-map}
use Rattle.std.proofs.lemmas.Option.{same_Some}
use Rattle.ck_base.specs.Tokens.{Lexeme}
use Rattle.c_tree.specs.declared.typed.Typed.{Typed}
use Rattle.c_tree.specs.declared.typed.GlobalDef.{GlobalDef}
use Rattle.c_tree.specs.declared.typed.Link.{Link}
use Rattle.c_tree.specs.Types.{Ty, composite}
use Rattle.c_tree.specs.Views.{types_of}
use Rattle.c_tree.specs.Scopes as meant
use Rattle.c_tree.specs.Scopes.{State, StaticState, Aiming, bind_name, change_static, changed_at, or_else}
use Rattle.c_tree.specs.Declarations.{new_static, known_static, linked_static, linked, linked_from}
use Rattle.c_interner.specs.Numbers.{type_named}
use Rattle.c_types.specs.declared.entries.Decl.{Decl}
use Rattle.c_types.specs.declared.scopes.Scopes.{Scopes}
use Rattle.c_types.specs.declared.scopes.ObjectInfo.{ObjectInfo}
use Rattle.c_types.specs.Calls.{Given}
use Rattle.c_types.specs.Declares.{name_of}
use Rattle.c_types.specs.Naming.{IsNumber}
use Rattle.c_types.specs.Stands.{Stands, Declared, object_of, static_seen, global_kept, declared_at, named, text_at}
use Rattle.c_types.proofs.Looking.{seen_at}
use Rattle.c_types.proofs.Binding.{bytes_same}
use Rattle.c_types.proofs.Judged.{named_there}
use Rattle.c_types.proofs.Changing.{changed_same, statics_changed}

-- ---- names with linkage

added_step : (b : Bool) (k : ℕ) (x y z w : Option ℕ) → x ≡ or_else y z → z ≡ w →
    cond b (Some k) x ≡ or_else (cond b (Some k) y) w
added_step true k x y z w e f = refl
added_step false k x y z w e f = e ∙ ap (or_else y) f

linked_after : (k : ℕ) (gs : List StaticState) (y : StaticState) (n : List ℕ) →
    linked_from k (gs ++ y ∷ []) n ≡ or_else (linked_from k gs n)
    (cond (y.linked && bytes_eq y.name.text n) (Some (k + length gs)) None)
linked_after k [] y n = let z : k + 0 ≡ k = omega arith in rw z refl
linked_after k (g ∷ gs) y n =
    let z : (k + 1) + length gs ≡ k + length (g ∷ gs) = omega arith in
    added_step (g.linked && bytes_eq g.name.text n) k _ (linked_from (k + 1) gs n) _ _ (linked_after (k + 1) gs y n)
    (ap (λ j. cond (y.linked && bytes_eq y.name.text n) (Some j) None) z)

new_name_linked : (c : Bool) (o k : Option ℕ) → (c ≡ true → o ≡ None) → cond c k o ≡ or_else o (cond c k None)
new_name_linked true o k h = rw (h refl) refl
new_name_linked false None k h = refl
new_name_linked false (Some j) k h = refl

both_true : (a b : Bool) → (a && b) ≡ true → (a ≡ true) × (b ≡ true)
both_true true b e = (refl, e)
both_true false b e = absurd cc

-- ---- new objects

pub objects_same : (sc : Scopes) (v : Vec ObjectInfo) (p : Typed) (s : State) → Stands sc p s →
    v.items ≡ sc.objects.items → Stands (record sc { objects = v }) p s
objects_same sc v p s h g = record {
  scopes = h.scopes;
  tags = h.tags;
  tag_types = h.tag_types;
  kinds = h.kinds;
  tagged = h.tagged;
  members = h.members;
  objects = g ∙ h.objects;
  globals = h.globals;
  begun = h.begun;
  routines = h.routines;
  locals = h.locals;
  int = h.int;
  linked = h.linked;
}

pub linked_same : (sc sd : Scopes) (p : Typed) (s : State) → Stands sc p s → sd ≡ record sc { linked = sd.linked } →
    sd.linked.entries ≡ sc.linked.entries → Stands sd p s
linked_same sc sd p s h same g =
    let r : Stands (record sc { linked = sd.linked }) p s = record {
      scopes = h.scopes;
      tags = h.tags;
      tag_types = h.tag_types;
      kinds = h.kinds;
      tagged = h.tagged;
      members = h.members;
      objects = h.objects;
      globals = h.globals;
      begun = h.begun;
      routines = h.routines;
      locals = h.locals;
      int = h.int;
      linked = λ n. ap (lookup (λ k. bytes_eq n k.bytes.now)) g ∙ h.linked n;
    } in
    subst (λ z. Stands z p s) (sym same) r

pushed : {A : Type 0} (xs ys : List A) (x y : A) → xs ≡ ys → x ≡ y → xs ++ x ∷ [] ≡ ys ++ y ∷ []
pushed xs ys x y d f = cc

object_added : (sb sd : Scopes) (p : Typed) (gs : List GlobalDef) (s : State) (x : GlobalDef) (y : StaticState) →
    Stands sb p s → sd ≡ record sb { objects = sd.objects; linked = sd.linked } →
    sd.objects.items ≡ sb.objects.items ++ object_of y ∷ [] →
    ((n : List ℕ) → lookup (λ k. bytes_eq n k.bytes.now) sd.linked.entries
    ≡ cond (y.linked && bytes_eq y.name.text n) (Some (length s.statics))
    (lookup (λ k. bytes_eq n k.bytes.now) sb.linked.entries)) → (y.linked ≡ true → linked s y.name.text ≡ None) →
    gs ≡ p.globals ++ x ∷ [] → global_kept sb.file.now (types_of p.types) x ≡ static_seen y →
    Stands sd (record p { globals = gs }) (record s { statics = s.statics ++ y ∷ [] })
object_added sb sd p gs s x y h same g m u e w =
    let r : Stands (record sb { objects = sd.objects; linked = sd.linked }) (record p { globals = gs })
    (record s { statics = s.statics ++ y ∷ [] }) = record {
      scopes = h.scopes;
      tags = h.tags;
      tag_types = h.tag_types;
      kinds = h.kinds;
      tagged = h.tagged;
      members = h.members;
      objects = g ∙ pushed _ _ _ _ h.objects refl ∙ sym (map_push object_of s.statics y);
      globals = rw e (map_push (global_kept sb.file.now (types_of p.types)) p.globals x ∙ pushed _ _ _ _ h.globals w
          ∙ sym (map_push static_seen s.statics y));
      begun = h.begun;
      routines = h.routines;
      locals = h.locals;
      int = h.int;
      linked = λ n.
          m n ∙ ap (λ o. cond (y.linked && bytes_eq y.name.text n) (Some (length s.statics)) o) (h.linked n)
          ∙ new_name_linked (y.linked && bytes_eq y.name.text n) (linked s n) (Some (length s.statics))
          (λ t. let b = both_true y.linked (bytes_eq y.name.text n) t in
          ap (linked s) (sym (bytes_same y.name.text n b.1)) ∙ u b.0)
          ∙ sym (let z : 0 + length s.statics ≡ length s.statics = omega arith in
          rw z at (linked_after 0 s.statics y n));
    } in
    subst (λ z. Stands z (record p { globals = gs }) (record s { statics = s.statics ++ y ∷ [] })) (sym same) r

pub object_given : (sc sb sd : Scopes) (p : Typed) (gs : List GlobalDef) (s : State) (d : Decl) (linkage defined : Bool)
    (k : ℕ) (x : GlobalDef) → Stands sc p s → d.of < length p.types → k ≡ length sc.objects.items →
    Stands sb p (bind_name (text_at sc.file.now d.name) (meant.Static k) s) → sb.file.now ≡ sc.file.now →
    sd ≡ record sb { objects = sd.objects; linked = sd.linked } →
    sd.objects.items ≡ sb.objects.items ++ record { linked = linkage; defined = defined; given = false } ∷ [] →
    ((n : List ℕ) → lookup (λ j. bytes_eq n j.bytes.now) sd.linked.entries
    ≡ cond (linkage && bytes_eq (text_at sc.file.now d.name) n) (Some k)
    (lookup (λ j. bytes_eq n j.bytes.now) sb.linked.entries)) → gs ≡ p.globals ++ x ∷ [] →
    ((file : List ℕ) (ts : List Ty) → global_kept file ts x ≡ declared_at file ts d.name d.pos d.of) →
    (linkage ≡ true → linked s (text_at sc.file.now d.name) ≡ None) →
    Given sd (record p { globals = gs }) (new_static (name_of sc.file.now d) (type_named p d.of) linkage defined s)
    (IsNumber k)
object_given sc sb sd p gs s d linkage defined k x h lt n b f same g m i w u =
    let t = name_of sc.file.now d in
    let of = type_named p d.of in
    let l : k ≡ length s.statics = n ∙ (simp length-map at (ap length h.objects)) in
    let z : StaticState = record { name = t; of = of; linked = linkage; defined = defined; initial = None; used = None }
    in
    record {
      value = length s.statics;
      state = bind_name t.text (meant.Static (length s.statics)) (record s { statics = s.statics ++ z ∷ [] });
      is = refl;
      stands = rw (← l)
          (object_added sb sd p gs (bind_name t.text (meant.Static k) s) x z b same g (λ r. rw (← l) (m r)) u i
          (rw f (w sc.file.now (types_of p.types)
          ∙ ap (λ o. record (declared_at sc.file.now (types_of p.types) d.name d.pos d.of) { of = o })
          (named_there p d.of lt))));
      fits = sym l;
    }

-- ---- objects that are known

pub static_type : (sc : Scopes) (p : Typed) (s : State) (k : ℕ) (x : GlobalDef) (y : StaticState) → Stands sc p s →
    slice_get p.globals k ≡ Some x → slice_get s.statics k ≡ Some y → named (types_of p.types) x.of ≡ Some y.of
static_type sc p s k x y h e f =
    let z = seen_at (global_kept sc.file.now (types_of p.types)) static_seen p.globals s.statics k x h.globals e in
    let i : z.0 ≡ y = same_Some z.0 y (sym z.1 ∙ f) in
    ap (λ (d : Declared). d.of) z.2 ∙ ap (λ (g : StaticState). Some g.of) i

retyped_global : (file : List ℕ) (ts : List Ty) (x : GlobalDef) (y : StaticState) (u : ℕ) (t : Ty) →
    global_kept file ts x ≡ static_seen y → named ts u ≡ Some t →
    global_kept file ts (record x { of = u }) ≡ static_seen (record y { of = t })
retyped_global file ts x y u t e f =
    ap (λ (d : Declared). record d { of = named ts u }) e ∙ ap (λ o. record (static_seen y) { of = o }) f

-- the scopes and the program for which an object is known stand for it with another type, which is made of the one that
-- it has
pub known_changed : (sc : Scopes) (v : Vec ObjectInfo) (p : Typed) (gs : List GlobalDef) (s : State) (k u : ℕ) (t : Ty)
    (defined : Bool) → Stands sc p s →
    v.items ≡ changed_at (λ (o : ObjectInfo). record o { defined = o.defined || defined }) sc.objects.items k →
    gs ≡ changed_at (λ (g : GlobalDef). record g { of = u }) p.globals k →
    ((x : GlobalDef) (y : StaticState) → slice_get p.globals k ≡ Some x → slice_get s.statics k ≡ Some y →
    named (types_of p.types) u ≡ Some (composite y.of t)) →
    Stands (record sc { objects = v }) (record p { globals = gs })
    (change_static k (λ (g : StaticState). record g { of = composite g.of t; defined = g.defined || defined }) s)
known_changed sc v p gs s k u t defined h e f m =
    statics_changed sc v p gs s k (λ (o : ObjectInfo). record o { defined = o.defined || defined })
    (λ (g : GlobalDef). record g { of = u })
    (λ (g : StaticState). record g { of = composite g.of t; defined = g.defined || defined }) h e f
    (λ y. refl) (λ y. refl) (λ y. refl) (λ x y a b g.
    retyped_global sc.file.now (types_of p.types) x y u (composite y.of t) g (m x y a b))

pub known_given : (sd : Scopes) (q : Typed) (s : State) (file : List ℕ) (d : Decl) (k : ℕ) (t : Ty) (defined : Bool) →
    Stands sd q (bind_name (text_at file d.name) (meant.Static k)
    (change_static k (λ (g : StaticState). record g { of = composite g.of t; defined = g.defined || defined }) s)) →
    Given sd q (known_static (name_of file d) k t defined s) (IsNumber k)
known_given sd q s file d k t defined h = record {
  value = k;
  state = bind_name (text_at file d.name) (meant.Static k)
      (change_static k (λ (g : StaticState). record g { of = composite g.of t; defined = g.defined || defined }) s);
  is = refl;
  stands = h;
  fits = refl;
}

-- ---- what is known later

-- an object with another type
pub completed_stands : (sc : Scopes) (p : Typed) (gs : List GlobalDef) (s : State) (k u : ℕ) (t : Ty) → Stands sc p s →
    gs ≡ changed_at (λ (g : GlobalDef). record g { of = u }) p.globals k → named (types_of p.types) u ≡ Some t →
    Stands sc (record p { globals = gs }) (change_static k (λ (g : StaticState). record g { of = t }) s)
completed_stands sc p gs s k u t h e m =
    statics_changed sc sc.objects p gs s k (λ (o : ObjectInfo). o) (λ (g : GlobalDef). record g { of = u })
    (λ (g : StaticState). record g { of = t }) h
    (sym (changed_same sc.objects.items k)) e (λ y. refl) (λ y. refl) (λ y. refl)
    (λ x y a b g. retyped_global sc.file.now (types_of p.types) x y u t g m)

-- an object with an initialiser
pub filled_stands : (sc : Scopes) (v : Vec ObjectInfo) (p : Typed) (gs : List GlobalDef) (s : State) (k : ℕ)
    (bytes : List ℕ) (links : List Link) (i : List ℕ × List Aiming) → Stands sc p s →
    v.items ≡ changed_at (λ (o : ObjectInfo). record o { given = true }) sc.objects.items k →
    gs ≡ changed_at (λ (g : GlobalDef). record g { bytes = bytes; links = links }) p.globals k →
    Stands (record sc { objects = v }) (record p { globals = gs })
    (change_static k (λ (g : StaticState). record g { initial = Some i }) s)
filled_stands sc v p gs s k bytes links i h o e =
    statics_changed sc v p gs s k (λ (o : ObjectInfo). record o { given = true })
    (λ (g : GlobalDef). record g { bytes = bytes; links = links })
    (λ (g : StaticState). record g { initial = Some i }) h
    o e (λ y. refl) (λ y. refl) (λ y. refl) (λ x y a b g. g)

-- ---- objects with linkage

pub defined_given : (sd : Scopes) (q : Typed) (s : State) (t : Lexeme) (of : Ty) (a b : Bool) (k : Option ℕ)
    (Fits : State → ℕ → Type 0) → a ≡ b → Given sd q (linked_static t of a k s) Fits →
    Given sd q (linked_static t of b k s) Fits
defined_given sd q s t of a b k Fits e h = subst (λ c. Given sd q (linked_static t of c k s) Fits) e h
