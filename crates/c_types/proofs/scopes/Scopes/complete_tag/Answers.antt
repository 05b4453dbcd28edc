use Rattle.std.proofs.Common.{refl, sym, ap, set, subst, ◌∙◌, ◌<◌, length}
use Rattle.std.specs.Prelude.{◌||◌, is_some}
use Rattle.c_types.specs.declared.scopes.Scopes.{Scopes}
use Rattle.cap_layout.specs.Answers.{Exceeds}
use Rattle.c_tree.specs.Declarators.{record_extent}
use Rattle.c_types.proofs.Extending.{completed_extends}
use Rattle.std.proofs.lemmas.Bool.{false≢true}
use Rattle.std.proofs.lemmas.Option.{slice_get_within}
use Rattle.std.proofs.lemmas.Result.{err_from_is_err_and}
use Rattle.c_types.proofs.Records.{over_fails, tag_there, none_there, named_same, completed_now, kind_is}
use Rattle.c_types.proofs.scopes.Scopes.complete_tag.Goals as goal

pub returns-in-Err-clause-answers : goal.returns-in-Err-clause-answers
returns-in-Err-clause-answers c kind parts has = (
  λ s h k. over_fails s kind c.args.tag parts c.args.pos
      (subst (λ z. Exceeds (record_extent s.tags z parts))
      (kind_is c.args.self.now c.args.p.now s c.args.tag c.in-Some.info kind h (sym c.in-Some.ensures) k)
      (c.in-Err.ensures s parts h (rw c.as_slice.ensures.value has))),
  refl,
  λ s h. h,
)

pub returns-in_ok-note_members-in-Ok-clause-answers : goal.returns-in_ok-note_members-in-Ok-clause-answers
returns-in_ok-note_members-in-Ok-clause-answers c kind parts has s h k =
    rw (c.replace.ensures, c.completed.ensures)
    (completed_now c.args.self.now c.note_members.new.self _ c.args.p.now s kind c.args.tag c.in-Some.info c.in-Ok.room
    c.in_ok-table-in-Ok.table c.args.members.items parts c.args.pos _ h (sym c.in-Some.ensures)
    (c.is_stale-self.ensures
    ∙ ap (λ (x : Scopes). x.stale || is_some c.in-Some.info.room) c.note_members.ensures.others)
    c.note_members.ensures.others
    c.in_ok-note_members-in-Ok.ensures.ok
    (record {
      numbers = rw c.as_slice-in-Ok.ensures.value at c.in_ok-table-in-Ok.ensures.numbers;
      starts = c.in_ok-table-in-Ok.ensures.offsets s parts h (rw c.as_slice-in-Ok.ensures.value has);
    })
    k
    (ap (λ (x : Scopes). set x.tags.items c.args.tag (record c.in-Some.info { room = c.in-Ok.room }))
    c.note_members.ensures.others) has
    (c.in-Ok.ensures s parts h (rw c.as_slice.ensures.value has)))

pub returns-in_ok-note_members-in-Ok-clause-extends : goal.returns-in_ok-note_members-in-Ok-clause-extends
returns-in_ok-note_members-in-Ok-clause-extends c =
    rw (c.replace.ensures, c.completed.ensures)
    (completed_extends c.args.p.now c.in-Some.info.of c.args.tag c.in-Some.info.kind c.args.members.items
    (sym c.is_type_of.ensures ∙ c.if-not-is_type_of.false))

pub returns-then-not-is_type_of-clause-answers : goal.returns-then-not-is_type_of-clause-answers
returns-then-not-is_type_of-clause-answers c kind parts has s h k =
    absurd (false≢true (sym c.if-not-is_type_of.true ∙ c.is_type_of.ensures
    ∙ tag_there c.args.self.now c.args.p.now s c.args.tag c.in-Some.info h (sym c.in-Some.ensures)))

pub returns-in-None-clause-answers : goal.returns-in-None-clause-answers
returns-in-None-clause-answers c kind parts has s h k =
    absurd (none_there c.args.self.now c.args.p.now s c.args.tag kind h (sym c.in-None.ensures) k)

pub returns-in_err-note_members-in-Ok-clause-answers : goal.returns-in_err-note_members-in-Ok-clause-answers
returns-in_err-note_members-in-Ok-clause-answers c kind parts has =
    let q = err_from_is_err_and c.from_residual-in_err-note_members-in-Ok.result
    c.from_residual-in_err-note_members-in-Ok.ensures.1 in
    rw (q.1, q.2) (
      refl,
      λ s h. named_same c.args.self.now c.note_members.new.self c.args.p.now s
          c.note_members.ensures.others c.in_err-note_members-in-Ok.ensures.err h,
    )

pub index_mut-requires : goal.index_mut-requires
index_mut-requires c = subst (λ n. c.args.tag < n) (sym c.note_members.new.self.tags.ok.0)
    (subst (λ (x : Scopes). c.args.tag < length x.tags.items) (sym c.note_members.ensures.others)
    (slice_get_within c.args.self.now.tags.items c.args.tag c.in-Some.info (sym c.in-Some.ensures)))
