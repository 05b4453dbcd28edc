use Rattle.std.proofs.Common.{◌≡◌, ℕ, ◌+◌, ◌-◌, ◌<◌, List, ◌++◌, length, take, drop, sym, ap, ◌∙◌, arith}
use Rattle.std.specs.Prelude.{All}
use Rattle.std.proofs.lemmas.List.Elements.{All-from_get_or, All-append, All-take, All-drop}
use Rattle.std.proofs.lemmas.List.{places}
use borrow.Rule.Slice.PartMut.{put_mid, post_of}
use Rattle.tag_mem.specs.Memory.{replaced}
use Rattle.tag_mem.specs.Granules.{granule_bytes}
use Rattle.tag_mem.proofs.Granules.{same_granule}
use Rattle.tag_mem.proofs.InArea.{length-replaced}
use Rattle.tag_mem.proofs.area.put.Goals as goal

pub returns : goal.returns
returns c =
    let old : List ℕ = c.args.granule.now in
    let place : ℕ = c.args.place in
    let bytes : List ℕ = c.args.bytes.now in
    let part : List ℕ = c.copy_from_slice.new.self in
    let back : place + length bytes - place ≡ length bytes = omega arith in
    let small : All (λ b. b < 256) old = All-from_get_or (λ b. b < 256) old 0 (λ k _. c.fits-granule k) in
    let small_new : All (λ b. b < 256) bytes =
    All-from_get_or (λ b. b < 256) bytes 0 (λ k _. omega (arith, c.type_inv.bytes k)) in
    let plain : put_mid place (place + length bytes - place) old part ≡ replaced place bytes old =
    ap (λ (new : List ℕ). take place old ++ (new ++ post_of place (place + length bytes - place) old))
    c.copy_from_slice.ensures.after
    ∙ ap (λ (n : ℕ). take place old ++ (bytes ++ post_of place n old)) back
    ∙ ap (λ (xs : List ℕ). take place old ++ (bytes ++ xs)) (behind place (length bytes) old) in
    let whole : granule_bytes (replaced place bytes old) ≡ replaced place bytes old =
    same_granule (replaced place bytes old) (length-replaced place bytes old (omega (arith, c.requires, c.told-granule))
    ∙ c.told-granule)
    (All-append (λ b. b < 256) (take place old) (bytes ++ drop (place + length bytes) old)
    (All-take (λ b. b < 256) place old small)
    (All-append (λ b. b < 256) bytes (drop (place + length bytes) old) small_new
    (All-drop (λ b. b < 256) (place + length bytes) old small))) in
    record {
      value = plain ∙ ap (replaced place bytes) (sym (same_granule old c.told-granule small));
      whole = ap granule_bytes plain ∙ whole ∙ sym plain;
    } where
      behind : (i n : ℕ) (xs : List ℕ) → drop n (drop i xs) ≡ drop (i + n) xs
      behind i n xs = grind (arith, places)
