-- A program in which no struct or union goes by value is run as it is written.
use Rattle.std.proofs.Common.{◌≡◌, ℕ, List, map, Some, sym, ap, ◌∙◌}
use Rattle.std.specs.Prelude.{slice_get, option_map}
use Rattle.std.proofs.lemmas.Option.{slice_get-map}
use Rattle.c_tree.specs.declared.syntax.RecordKind.TheVariants as record_kinds
use Rattle.c_tree.specs.declared.typed.CType.{CType}
use Rattle.c_tree.specs.declared.typed.CType.TheVariants as ctypes
use Rattle.c_tree.specs.declared.typed.Member.{Member}
use Rattle.c_tree.specs.declared.typed.Typed.{Typed}
use Rattle.c_tree.specs.Types.{Ty}
use Rattle.c_tree.specs.Terms.{Tag, Program}
use Rattle.c_tree.specs.Views.{types_of, type_at, actions_of, object_of, routine_of, member_of, TagAgrees, Shows}
use Rattle.c_tree.specs.Views.{IsOrdered}
use Rattle.c_tree.specs.Passed.{Names, passed, passed_member, passed_members, passed_tag, passed_object}
use Rattle.c_tree.specs.Passed.{passed_routine, passed_program}
use Rattle.plain_programs.specs.Plain.{IsPlain}
use Rattle.plain_programs.proofs.Lists.{map_kept}
use Rattle.plain_programs.proofs.TypeLaws.{types_stay}
use Rattle.plain_programs.proofs.Routines.{routine_same, routine_plain}

-- ---- tags

members_same : (ts : List Ty) (ms : List Member) → ((k : ℕ) → passed (type_at ts k) ≡ type_at ts k) →
    map passed_member (map (member_of ts) ms) ≡ map (member_of ts) ms
members_same ts ms h = map_kept passed_member (member_of ts) ms (λ j m e. ap (λ (t : Ty). (m.name, t)) (h m.of))

with_tag : (tags : List Tag) (k : ℕ) (t : Tag) → slice_get tags k ≡ Some t →
    slice_get (map passed_tag tags) k ≡ Some (passed_tag t)
with_tag tags k t e = slice_get-map passed_tag tags k ∙ ap (option_map passed_tag) e

tag_agrees : (ts : List Ty) (tags : List Tag) (c : CType) → ((k : ℕ) → passed (type_at ts k) ≡ type_at ts k) →
    TagAgrees ts tags c → TagAgrees ts (map passed_tag tags) c
tag_agrees ts tags (ctypes.Struct tag ms) h a =
    with_tag tags tag (record { kind = record_kinds.Struct; members = Some (map (member_of ts) ms) }) a
    ∙ ap (λ xs. Some (record { kind = record_kinds.Struct; members = Some xs })) (members_same ts ms h)
tag_agrees ts tags (ctypes.Union tag ms) h a =
    with_tag tags tag (record { kind = record_kinds.Union; members = Some (map (member_of ts) ms) }) a
    ∙ ap (λ xs. Some (record { kind = record_kinds.Union; members = Some xs })) (members_same ts ms h)
tag_agrees ts tags (ctypes.Incomplete tag) h a = (passed_tag a.0, with_tag tags tag a.0 a.1, ap passed_members a.2)
tag_agrees ts tags c h a = tt

-- ---- the program

pub runs_as_written : (p : Typed) (names : Names) (q : Program) → IsOrdered p → IsPlain p → Shows p q →
    Shows p (passed_program names q)
unfolding passed_program
runs_as_written p names q o h s =
    let ts = types_of p.types in
    let types : (k : ℕ) → passed (type_at ts k) ≡ type_at ts k = λ k. (types_stay p o h k).same in
    record {
      tags = λ k c e. tag_agrees ts q.tags c types (s.tags k c e);
      objects = sym (map_kept passed_object (object_of ts) p.globals
          (λ j g e. ap (λ (t : Ty). record (object_of ts g) { of = t }) (types g.of)))
          ∙ ap (map passed_object) s.objects;
      texts = s.texts;
      routines = sym (map_kept (passed_routine names) (routine_of ts (actions_of p)) p.funs
          (λ k f e. routine_same names (routine_of ts (actions_of p) f) (routine_plain p o h k f e)))
          ∙ ap (map (passed_routine names)) s.routines;
      main = s.main;
    }
