-- Tags that are declared.
use Rattle.std.proofs.Common.{◌≡◌, ℕ, ◌-◌, Bool, true, false, Option, Some}
use Rattle.std.proofs.Common.{None, Ok, Err, refl, sym, ap, subst, ◌∙◌}
use Rattle.std.specs.Prelude.{slice_get}
use Rattle.std.proofs.lemmas.Bool.{false≢true}
use Rattle.ck_base.specs.declared.positions.Pos.{Pos}
use Rattle.ck_base.specs.Tokens.{Lexeme}
use Rattle.c_tree.specs.declared.syntax.RecordKind.{RecordKind}
use Rattle.c_tree.specs.declared.syntax.RecordKind.TheVariants as records
use Rattle.c_tree.specs.declared.typed.Typed.{Typed}
use Rattle.c_tree.specs.Views.{types_of}
use Rattle.c_tree.specs.Scopes as meant
use Rattle.c_tree.specs.Scopes.{State, TagState, Recorded, Enumerated, find_in, find_tag, innermost, give}
use Rattle.c_tree.specs.Scopes.{◌>>◌, continued, changed_at, with_changed}
use Rattle.c_tree.specs.Declarators.{declare_tag, begin_tag, kind_at, has_kind, is_begun, same_record}
use Rattle.c_types.specs.declared.scopes.TagInfo.{TagInfo}
use Rattle.c_types.specs.declared.scopes.Scopes.{Scopes}
use Rattle.ck_base.specs.declared.refusal.Refusal.{Refusal}
use Rattle.ck_base.specs.declared.refusal.Refusal.TheVariants.{Code, NoMemory}
use Rattle.c_types.specs.Calls.{Given, Answers}
use Rattle.c_types.specs.Declares.{declares_record}
use Rattle.c_types.specs.Naming.{IsTagOf, IsNewTag, names_record}
use Rattle.c_types.specs.Stands.{Stands, SeenTag, tag_kept, tag_seen}
use Rattle.c_types.proofs.Looking.{seen_at}
use Rattle.c_types.proofs.Records.{seen_none, slice_get-slice_set}
use Rattle.c_types.proofs.Steps.{same_result}

-- ---- of which kind

pub kind_none : (sc : Scopes) (p : Typed) (s : State) (n : ℕ) (k : RecordKind) → Stands sc p s →
    slice_get sc.tags.items n ≡ None → kind_at s n k ≡ false
kind_none sc p s n k h e =
    ap (λ o. has_kind o k) (seen_none (tag_kept p.types (types_of p.types)) tag_seen sc.tags.items s.tags n h.tags e)

pub kind_some : (sc : Scopes) (p : Typed) (s : State) (n : ℕ) (k : RecordKind) (i : TagInfo) → Stands sc p s →
    slice_get sc.tags.items n ≡ Some i → kind_at s n k ≡ same_record i.kind k
kind_some sc p s n k i h e =
    let t = seen_at (tag_kept p.types (types_of p.types)) tag_seen sc.tags.items s.tags n i h.tags e in
    ap (λ o. has_kind o k) t.1 ∙ ap (λ j. same_record j k) (sym (ap (λ (x : SeenTag). x.kind) t.2))

-- ---- a new one

-- ---- named here

-- the kind stays as the braces are opened
opened_kind : (u v : State) (n : ℕ) (k : RecordKind) (place : Pos) (x : Unit {0}) →
    is_begun (slice_get u.tags n) ≡ false → begin_tag n place u ≡ Ok (x, v) → kind_at u n k ≡ true →
    kind_at v n k ≡ true
opened_kind u v n k place x b e h =
    let i : begin_tag n place u ≡ Ok (tt, record u { tags = changed_at opened u.tags n }) = rw b refl in
    let z : record u { tags = changed_at opened u.tags n } ≡ v =
    ap (λ y. y.1) (same_result (tt, record u { tags = changed_at opened u.tags n }) (x, v)
    (begin_tag n place u) i e) in
    subst (λ w. kind_at w n k ≡ true) z (by_tag (slice_get u.tags n) refl h)
  where
    opened : TagState → TagState
    opened t = record t { begun = true }

    by_tag : (o : Option TagState) → slice_get u.tags n ≡ o → has_kind o k ≡ true →
        has_kind (slice_get (with_changed opened o u.tags n) n) k ≡ true
    by_tag None f g = absurd (false≢true g)
    by_tag (Some t) f g = ap (λ o. has_kind o k) (slice_get-slice_set u.tags n t (opened t) f) ∙ g

again_kind : (u v : State) (n : ℕ) (k : RecordKind) (place : Pos) (x : Unit {0}) → begin_tag n place u ≡ Ok (x, v) →
    kind_at u n k ≡ true → kind_at v n k ≡ true
again_kind u v n k place x e h = by_begun (is_begun (slice_get u.tags n)) refl
  where
    by_begun : (b : Bool) → is_begun (slice_get u.tags n) ≡ b → kind_at v n k ≡ true
    by_begun false f = opened_kind u v n k place x f e h
    by_begun true f = absurd (let i : begin_tag n place u ≡ Err (record { code = 131; place = place }) = rw f refl in
        let j : Err (record { code = 131; place = place }) ≡ Ok (x, v) = sym i ∙ e in cc)

pub record_new : (sc : Scopes) (q : Typed) (s : State) (k : RecordKind) (n : ℕ) (t : Lexeme) (b : Bool) → b ≡ false →
    find_in (innermost s.scopes).tags t.text ≡ None → Given sc q (declare_tag k t s) (IsNewTag k n) →
    Given sc q (declares_record k t b s) (IsTagOf k n)
record_new sc q s k n t b f e g =
    let i : declare_tag k t s ≡ Ok (n, g.state) = rw (← g.fits.0) g.is in
    record {
      value = n;
      state = g.state;
      is = rw (e, f) (ap (λ r. continued r (λ m. give m)) i);
      stands = g.stands;
      fits = (refl, g.fits.1);
    }

pub record_opened : (sc sd : Scopes) (q : Typed) (s : State) (k : RecordKind) (n : ℕ) (t : Lexeme) (b : Bool) →
    b ≡ true → find_in (innermost s.scopes).tags t.text ≡ None → Given sc q (declare_tag k t s) (IsNewTag k n) →
    ((u : State) → Stands sc q u → is_begun (slice_get u.tags n) ≡ false →
    Given sd q (begin_tag n t.pos u) (λ v a. Unit {0})) → Given sd q (declares_record k t b s) (IsTagOf k n)
record_opened sc sd q s k n t b f e g h =
    let i : declare_tag k t s ≡ Ok (n, g.state) = rw (← g.fits.0) g.is in
    let o = h g.state g.stands g.fits.2 in
    record {
      value = n;
      state = o.state;
      is = rw (e, f) (ap (λ r. continued r (λ m. begin_tag m t.pos >> give m)) i
          ∙ ap (λ r. continued r (λ a. give n)) o.is);
      stands = o.stands;
      fits = (refl, opened_kind g.state o.state n k t.pos o.value g.fits.2 o.is g.fits.1);
    }

pub named_refused : (sc sd : Scopes) (p : Typed) (k : RecordKind) (t : Lexeme) (b : Bool) (n : ℕ) (e : Refusal) →
    b ≡ true → ((s : State) → Stands sc p s → kind_at s n k ≡ true) →
    Answers sc p sd p (begin_tag n t.pos) (λ (x : Unit {0}) s a. Unit {0}) (Err e) →
    Answers sc p sd p (names_record k t b (Recorded n)) (IsTagOf k) (Err e)
named_refused sc sd p k t b n (Code code place) f g h = record {
  refused = λ s i. rw (g s i, f) (ap (λ r. continued r (λ a. give n)) (h.refused s i));
  program = h.program;
  keeps = h.keeps;
}
named_refused sc sd p k t b n NoMemory f g h = h

pub named_again : (sc sd : Scopes) (p : Typed) (s : State) (k : RecordKind) (t : Lexeme) (b : Bool) (n : ℕ) → b ≡ true →
    kind_at s n k ≡ true → Given sd p (begin_tag n t.pos s) (λ u a. Unit {0}) →
    Given sd p (names_record k t b (Recorded n) s) (IsTagOf k n)
named_again sc sd p s k t b n f g o = record {
  value = n;
  state = o.state;
  is = rw (g, f) (ap (λ r. continued r (λ a. give n)) o.is);
  stands = o.stands;
  fits = (refl, again_kind s o.state n k t.pos o.value o.is g);
}

pub record_there : (s : State) (k : RecordKind) (t : Lexeme) (b : Bool) (g : meant.Tagging) →
    find_in (innermost s.scopes).tags t.text ≡ Some g → declares_record k t b s ≡ names_record k t b g s
record_there s k t b g e = rw e refl
