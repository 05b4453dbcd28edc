use Rattle.std.proofs.Common.{◌≡◌, false, [], ◌∷◌, ◌++◌, refl, sym, ap, ◌∙◌}
use Rattle.std.specs.Prelude.{◌||◌, bytes_eq}
use Rattle.std.specs.List.{list_any}
use Rattle.ck_base.specs.Tokens.{Lexeme}
use Rattle.c_tree.specs.declared.typed.Member.{Member}
use Rattle.c_tree.specs.Scopes.{give}
use Rattle.c_tree.specs.Declarators as meant
use Rattle.c_tree.specs.Declarators.{judge, has_part}
use Rattle.c_types.specs.Stands.{text_at}
use Rattle.c_expressions.specs.Nodes.{type_in}
use Rattle.c_elaborator.specs.declared.work.Work.{Work}
use Rattle.c_elaborator.specs.Answers.{Keeps}
use Rattle.c_elaborator.specs.Parts.{token_of}
use Rattle.c_elaborator.proofs.Growing.{keeps_nodes}
use Rattle.c_declarators.specs.Forming.{formed_in}
use Rattle.c_declarators.specs.Parts.{any_scope, AllMembersThere, AreAllMembers, has_name}
use Rattle.c_declarators.proofs.Joining.{has_part_is, member_again, member_step, members_kept, members_push}
use Rattle.c_declarators.proofs.Joining.{all_members_kept, all_members_push}
use Rattle.c_declarators.proofs.Quietly.{given_quietly, judged_err, judged_ok}
use Rattle.c_declarators.proofs.Wrapping.{formed_is, faults_in}
use Rattle.c_declarators.proofs.members.named_member.Goals as goal

pub returns-then-has : goal.returns-then-has
returns-then-has c = λ ws ms a h s k.
    let w : Work = c.args.work.now in
    let e : list_any (λ (m : Member). bytes_eq (text_at w.file.now m.name) (text_at w.file.now c.args.name.span))
    c.args.members.all.items ≡ c.has.result =
    sym (c.requires.members.names (text_at w.file.now c.args.name.span))
    ∙ sym (rw c.text_of-text.ensures at c.has.ensures) in
    member_again s (type_in w.nodes c.args.of) ws (token_of w c.args.name) ms
    (has_part_is w c.args.members.all.items ms (text_at w.file.now c.args.name.span) h ∙ e ∙ c.if-has.true)

pub returns-in-Err : goal.returns-in-Err
returns-in-Err c = λ ws ms a h.
    let w : Work = c.args.work.now in
    let t : Lexeme = token_of w c.args.name in
    let e : list_any (λ (m : Member). bytes_eq (text_at w.file.now m.name) (text_at w.file.now c.args.name.span))
    c.args.members.all.items ≡ c.has.result =
    sym (c.requires.members.names (text_at w.file.now c.args.name.span))
    ∙ sym (rw c.text_of-text.ensures at c.has.ensures) in
    let b : has_part ms t.text ≡ false =
    has_part_is w c.args.members.all.items ms (text_at w.file.now c.args.name.span) h ∙ e ∙ c.if-has.false in
    let x : meant.Formed = formed_in c.form.new.nodes c.in_ok-formed.formed in
    judged_err w (record w { nodes = c.form.new.nodes }) _
    (λ s. judge x c.lacks-incomplete.result c.is_function-function.result c.args.name.pos)
    (λ s. give (ms ++ record { name = t; of = x.of } ∷ [])) AllMembersThere AreAllMembers c.in-Err.refusal
    (λ s k. member_step s (type_in w.nodes c.args.of) ws t ms x c.lacks-incomplete.result c.is_function-function.result
    (formed_is any_scope w c.form.new.nodes c.in_ok-formed.formed c.args.of c.args.wraps.now ws s
    c.in_ok-formed.ensures a k) b (c.lacks-incomplete.ensures s
    (c.in_ok-formed.ensures.keeps.stands s k.stands)) (sym c.is_function-function.ensures))
    (λ s k. c.in-Err.ensures x (faults_in c.form.new.nodes c.in_ok-formed.formed))

pub returns : goal.returns
returns c = λ ws ms a h.
    let w : Work = c.args.work.now in
    let v : Work = record w { nodes = c.form.new.nodes } in
    let t : Lexeme = token_of w c.args.name in
    let m : Member = record { name = c.args.name.span; of = c.in_ok-formed.formed.of } in
    let e : list_any (λ (m : Member). bytes_eq (text_at w.file.now m.name) (text_at w.file.now c.args.name.span))
    c.args.members.all.items ≡ c.has.result =
    sym (c.requires.members.names (text_at w.file.now c.args.name.span))
    ∙ sym (rw c.text_of-text.ensures at c.has.ensures) in
    let b : has_part ms t.text ≡ false =
    has_part_is w c.args.members.all.items ms (text_at w.file.now c.args.name.span) h ∙ e ∙ c.if-has.false in
    let x : meant.Formed = formed_in c.form.new.nodes c.in_ok-formed.formed in
    let grown : Keeps w v = keeps_nodes w c.form.new.nodes c.in_ok-formed.ensures.keeps in
    let r = c.in_ok-longer-in-Ok.ensures in
    let there : AllMembersThere v c.in_ok-longer-in-Ok.longer =
    all_members_push v c.args.members c.in_ok-longer-in-Ok.longer m
    (all_members_kept w v c.args.members grown c.requires.members) c.in_ok-formed.ensures.there r.all
    (λ text. r.names text ∙ ap (λ n. bytes_eq n text || has_name c.args.members text) c.text_of-text.ensures) in
    given_quietly w c.form.new.nodes _ _ _ (λ s. ms ++ record { name = t; of = x.of } ∷ []) c.in_ok-formed.ensures.keeps
    there
    (λ s k. member_step s (type_in w.nodes c.args.of) ws t ms x c.lacks-incomplete.result c.is_function-function.result
    (formed_is any_scope w c.form.new.nodes c.in_ok-formed.formed c.args.of c.args.wraps.now ws s
    c.in_ok-formed.ensures a k) b (c.lacks-incomplete.ensures s
    (c.in_ok-formed.ensures.keeps.stands s k.stands)) (sym c.is_function-function.ensures)
    ∙ judged_ok (judge x c.lacks-incomplete.result c.is_function-function.result c.args.name.pos)
    (give (ms ++ record { name = t; of = x.of } ∷ [])) s
    (c.in-Ok.ensures x (faults_in c.form.new.nodes c.in_ok-formed.formed)))
    (λ s k. rw r.all (members_push v c.args.members.all.items ms m (record { name = t; of = x.of })
    (members_kept w v c.args.members.all.items ms grown c.requires.members.there h)
    (record { text = refl; span = refl; of = refl })))
