use Rattle.std.proofs.Common.{◌≡◌, refl, ◌∙◌, sym, ap, length, arith}
use Rattle.c_types.specs.Stands.{tag_kept, tag_seen}
use Rattle.c_tree.specs.Views.{types_of}
use Rattle.c_types.proofs.Looking.{seen_length}
use Rattle.c_types.proofs.Extending.{extends_longer}
use Rattle.c_types.proofs.Records.{stands_new_tag}
use Rattle.c_types.proofs.scopes.Scopes.add_tag.Goals as goal

pub returns-clause-ok : goal.returns-clause-ok
returns-clause-ok c s h =
    let n : c.in_ok-tag.tag ≡ length c.args.self.now.tags.items =
    c.in_ok-tag.ensures ∙ ap length c.as_slice.ensures.value in
    record {
      value = _;
      state = _;
      is = refl;
      stands = stands_new_tag c.args.self.now c.push.new.self c.args.p.now _ s c.args.kind c.in_ok-tag.tag c.in_ok-of.of
          h c.in_ok-append.ensures.ok refl
          (c.in_ok-of.ensures ∙ ap length c.as_slice-2.ensures) n (omega arith)
          (rw c.in_ok-reserve.ensures.items at c.in_ok-push.ensures.items);
      fits = sym (n ∙ seen_length (tag_kept c.args.p.now.types (types_of c.args.p.now.types)) tag_seen
          c.args.self.now.tags.items s.tags h.tags);
    }

pub returns-clause-extends : goal.returns-clause-extends
returns-clause-extends c =
    extends_longer c.args.p.now _ _ c.in_ok-append.ensures.ok refl
