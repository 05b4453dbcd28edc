-- A file has one reading at most.
use Rattle.std.proofs.Common.{◌≡◌, ℕ, ◌+◌, ◌-◌, ◌≤◌, List, [], ◌∷◌, ◌++◌, length, take, drop, refl, sym, ap, subst, ◌∙◌}
use Rattle.std.proofs.Common.{arith, length-append}
use Rattle.std.proofs.lemmas.List.{drop_all}
use Rattle.std.specs.Prelude.{slice_range}
use Rattle.ck_base.specs.declared.positions.Pos.{Pos}
use Rattle.ck_base.specs.declared.positions.Span.{Span}
use Rattle.ck_base.specs.Tokens.{Lexeme}
use Rattle.ck_base.specs.Lexes.{begins_line, position_after, Gap, IsTokenOf, NextToken, NextRefusal, NextEnd, Reads}
use Rattle.ck_base.specs.Lexes.{Lexes, Refuses}
use Rattle.c_lex.specs.declared.pieces.Found.{Found}
use Rattle.c_lex.specs.declared.pieces.Found.TheVariants.{End, Token, Refused}
use Rattle.c_lex.specs.declared.pieces.Piece.{Piece}
use Rattle.c_lex.specs.declared.pieces.Piece.TheVariants.{Separator, Other}
use Rattle.c_lex.specs.Pieces.{StandsFound, Stands}
use Rattle.c_lex.proofs.Longest.{longest_some}
use Rattle.c_lex.proofs.OnePiece.{one_piece}

-- this is found behind separators: what, and where
record Finds (file : List ℕ) (i k : ℕ) (found : Found) : Type 0 where
  passed : Gap file i k
  stands : StandsFound (begins_line (take k file)) (drop k file) found

here : (file : List ℕ) (i : ℕ) (p q : Piece) → Stands (begins_line (take i file)) (drop i file) p →
    Stands (begins_line (take i file)) (drop i file) q → p ≡ q
here file i p q = one_piece (begins_line (take i file)) (drop i file) p q

one_gap : (file : List ℕ) {i k : ℕ} (m : ℕ) (found other : Found) → Gap file i k → Gap file i m →
    StandsFound (begins_line (take k file)) (drop k file) found →
    StandsFound (begins_line (take m file)) (drop m file) other → (k ≡ m) × (found ≡ other)
one_gap file {i} m found other Gap.none Gap.none stands again =
    let same = here file i (Other found) (Other other) stands again in
    (refl, let both : found ≡ other = cc in both)
one_gap file {i} m found other Gap.none (Gap.more {n = n} separates gap) stands again =
    let same = here file i (Other found) (Separator n) stands separates in absurd (cc)
one_gap file {i} m found other (Gap.more {n = n} separates gap) Gap.none stands again =
    let same = here file i (Separator n) (Other other) separates again in absurd (cc)
one_gap file {i} m found other (Gap.more {n = n} separates gap) (Gap.more {n = l} separates_so gap_so) stands again =
    let same = here file i (Separator n) (Separator l) separates separates_so in
    let long : n ≡ l = cc in
    one_gap file m found other gap (subst (λ v. Gap file (i + v) m) (sym long) gap_so) stands again

one_found : (file : List ℕ) (i k m : ℕ) (found other : Found) → Finds file i k found → Finds file i m other →
    (k ≡ m) × (found ≡ other)
one_found file i k m found other first second =
    one_gap file m found other first.passed second.passed first.stands second.stands

-- Tokens, refusals and the end are found so

token_length : Lexeme → ℕ
token_length token = token.span.end - token.span.start

token_found : {file : List ℕ} {i : ℕ} {token : Lexeme} → NextToken file i token →
    Finds file i token.span.start (Token token.kind (token_length token))
unfolding token_length
token_found next = record { passed = next.0; stands = next.1.begins }

end_found : {file : List ℕ} {i : ℕ} → NextEnd file i → Finds file i (length file) End
end_found {file} next = record { passed = next; stands = drop_all (length file) file (omega arith) }

refusal_found : {file : List ℕ} {i code : ℕ} {pos : Pos} → (next : NextRefusal file i code pos) →
    Finds file i next.0 (Refused code)
refusal_found next = record { passed = next.1; stands = next.2 }

-- a token of a file has a byte
token_some : {file : List ℕ} {token : Lexeme} → IsTokenOf file token → 1 ≤ token.span.end - token.span.start
token_some {file} {token} is = longest_some (drop token.span.start file) token.kind _ is.begins.longest.form

pub one_token : (file : List ℕ) (i : ℕ) (token other : Lexeme) → NextToken file i token → NextToken file i other →
    token ≡ other
unfolding token_length
one_token file i token other next again =
    let same = one_found file i token.span.start other.span.start _ _ (token_found next) (token_found again) in
    let kind : token.kind ≡ other.kind = cc in
    let long : token_length token ≡ token_length other = cc in
    let ends : token.span.end ≡ other.span.end = omega (arith, token_some next.1, token_some again.1, same.0, long) in
    let span : token.span ≡ other.span = λ j. record { start = same.0 j; end = ends j } in
    let text : token.text ≡ other.text =
    next.1.text ∙ ap (λ (s : Span). slice_range file s.start s.end) span ∙ sym again.1.text in
    let pos : token.pos ≡ other.pos = next.1.pos ∙ ap (λ k. position_after (take k file)) same.0 ∙ sym again.1.pos in
    λ j. record { kind = kind j; text = text j; span = span j; pos = pos j }

-- Whole readings: tokens up to something else

IsLast : Found → Type 0
IsLast End = Unit {0}
IsLast (Token kind n) = ⊥
IsLast (Refused code) = Unit {0}

token_not_last : (file : List ℕ) (i k : ℕ) (token : Lexeme) (last : Found) → NextToken file i token →
    Finds file i k last → IsLast last → ⊥
unfolding IsLast
token_not_last file i k token last next found is_last =
    let same = one_found file i _ k (Token token.kind (token_length token)) last (token_found next) found in
    subst IsLast (sym same.1) is_last

one_run : (file : List ℕ) (i : ℕ) (tokens others : List Lexeme) (k l m n : ℕ) (last end : Found) →
    Reads file i tokens k → Finds file k m last → IsLast last → Reads file i others l → Finds file l n end →
    IsLast end → (tokens ≡ others) × (m ≡ n) × (last ≡ end)
one_run file i [] [] k l m n last end reads found is_last again found_so is_end =
    let same = one_found file i m n last end (subst (λ v. Finds file v m last) (sym reads) found)
    (subst (λ v. Finds file v n end) (sym again) found_so) in
    (refl, same.0, same.1)
one_run file i [] (other ∷ others) k l m n last end reads found is_last again found_so is_end =
    absurd (token_not_last file i m other last again.0 (subst (λ v. Finds file v m last) (sym reads) found) is_last)
one_run file i (token ∷ tokens) [] k l m n last end reads found is_last again found_so is_end =
    absurd (token_not_last file i n token end reads.0 (subst (λ v. Finds file v n end) (sym again) found_so) is_end)
one_run file i (token ∷ tokens) (other ∷ others) k l m n last end reads found is_last again found_so is_end =
    let same = one_token file i token other reads.0 again.0 in
    let rest = one_run file token.span.end tokens others k l m n last end reads.1 found is_last
    (subst (λ (t : Lexeme). Reads file t.span.end others l) (sym same) again.1) found_so is_end in
    (λ j. same j ∷ rest.0 j, rest.1, rest.2)

pub one_lexing : (file : List ℕ) (tokens others : List Lexeme) → Lexes file tokens → Lexes file others → tokens ≡ others
unfolding IsLast
one_lexing file tokens others lexes again =
    (one_run file 0 tokens others _ _ _ _ End End lexes.1 (end_found lexes.2) tt again.1 (end_found again.2) tt).0

refused_injective : (a b : ℕ) → Refused a ≡ Refused b → a ≡ b
refused_injective a b e = cc

pub one_refusal : (file : List ℕ) (code other : ℕ) (pos place : Pos) → Refuses file code pos →
    Refuses file other place → (code ≡ other) × (pos ≡ place)
unfolding IsLast
one_refusal file code other pos place refuses again =
    let same = one_run file 0 refuses.0 again.0 _ _ _ _ (Refused code) (Refused other) refuses.2
    (refusal_found refuses.3) tt again.2 (refusal_found again.3) tt in
    let codes_same : code ≡ other = refused_injective code other same.2 in
    (codes_same, refuses.3.3 ∙ ap (λ k. position_after (take k file)) same.1 ∙ sym again.3.3)

pub lexing_no_refusal : (file : List ℕ) (tokens : List Lexeme) (code : ℕ) (pos : Pos) → Lexes file tokens →
    Refuses file code pos → ⊥
unfolding IsLast
lexing_no_refusal file tokens code pos lexes refuses =
    let same = one_run file 0 tokens refuses.0 _ _ _ _ End (Refused code) lexes.1 (end_found lexes.2) tt refuses.2
    (refusal_found refuses.3) tt in
    let never = same.2 in
    cc

-- One step

pub one_refused : (file : List ℕ) (i code other : ℕ) (pos place : Pos) → NextRefusal file i code pos →
    NextRefusal file i other place → (code ≡ other) × (pos ≡ place)
one_refused file i code other pos place next again =
    let same = one_found file i next.0 again.0 (Refused code) (Refused other) (refusal_found next)
    (refusal_found again) in
    (refused_injective code other same.1, next.3 ∙ ap (λ k. position_after (take k file)) same.0 ∙ sym again.3)

pub token_not_end : (file : List ℕ) (i : ℕ) (token : Lexeme) → NextToken file i token → NextEnd file i → ⊥
unfolding IsLast
token_not_end file i token next end = token_not_last file i _ token End next (end_found end) tt

pub token_not_refused : (file : List ℕ) (i code : ℕ) (token : Lexeme) (pos : Pos) → NextToken file i token →
    NextRefusal file i code pos → ⊥
unfolding IsLast
token_not_refused file i code token pos next refused =
    token_not_last file i _ token (Refused code) next (refusal_found refused) tt

pub refused_not_end : (file : List ℕ) (i code : ℕ) (pos : Pos) → NextRefusal file i code pos → NextEnd file i → ⊥
refused_not_end file i code pos refused end =
    let same = one_found file i refused.0 _ (Refused code) End (refusal_found refused) (end_found end) in
    let never = same.1 in
    cc

-- Calls one after another

pub Reads-push : (file : List ℕ) (i : ℕ) (tokens : List Lexeme) (k : ℕ) (token : Lexeme) → Reads file i tokens k →
    NextToken file k token → Reads file i (tokens ++ token ∷ []) token.span.end
Reads-push file i [] k token reads next = (subst (λ v. NextToken file v token) (sym reads) next, refl)
Reads-push file i (first ∷ tokens) k token reads next =
    (reads.0, Reads-push file first.span.end tokens k token reads.1 next)

-- one token more was read and counted
pub counted_more : (file : List ℕ) (tokens : List Lexeme) (n k i : ℕ) (token : Lexeme) → Reads file 0 tokens k →
    length tokens ≡ n → NextToken file k token → i ≡ token.span.end →
    (more : List Lexeme) × Reads file 0 more i × (length more ≡ n + 1)
counted_more file tokens n k i token reads count next ends = (
  tokens ++ token ∷ [],
  subst (λ v. Reads file 0 (tokens ++ token ∷ []) v) (sym ends)
      (Reads-push file 0 tokens k token reads next),
  length-append tokens (token ∷ []) ∙ ap (λ v. v + 1) count,
)
