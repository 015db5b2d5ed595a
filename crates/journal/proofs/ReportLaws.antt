-- What is proved of the report: 24 bytes suffice, its newline is its last byte, and one report has one reading. Assumes nothing.
use Rattle.std.specs.Prelude.{ℕ, ◌+◌, ◌*◌, ◌≤◌, ◌≡◌, List, [], ◌∷◌, ◌++◌, map, length, drop}
use Rattle.std.proofs.Common.{sym, ap, ap₂, ◌∙◌, arith, length-append}
use Rattle.common.specs.Each.{All}
use Rattle.journal.specs.declared.Counts.{Counts}
use Rattle.journal.specs.Line.{decimal_width, decimal, rest_of_line}
use Rattle.journal.specs.Reading.{newlines, number_at, decimal_width_at}
use Rattle.journal.specs.Report.{five, total, report_bytes}
use Rattle.journal.proofs.DigitLaws.{decimal_width_fits, decimal_length, decimal_width_read_back, decimal_read_back}
use Rattle.journal.proofs.FieldLaws.{rest_width, rest_of_line_length}
use Rattle.journal.proofs.Unique.{drop_past_comma}
use Rattle.journal.proofs.Numbers.{NoNewline, decimal_no_newline, fields_end_with_newline, fields_no_newline}
use Rattle.journal.specs.Theorem.{others, report_front}

-- ---- the counts and their total
abbrev pub Small : ℕ → Type 0
Small n = n ≤ 656

pub counts_small_if_total_is : (c : Counts) → Small (total c) → All Small (five c ++ total c ∷ [])
unfolding total
counts_small_if_total_is c h = (omega arith, (omega arith, (omega arith, (omega arith, (omega arith, (h, tt))))))

-- ---- bytes
pub report_ends_with_newline : (c : Counts) → report_bytes c ≡ report_front c ++ (10 ∷ [])
unfolding report_bytes report_front
report_ends_with_newline c = fields_end_with_newline (decimal c.scored) (map decimal (others c (total c)))

decimals_no_newline : (ns : List ℕ) → All NoNewline (map decimal ns)
decimals_no_newline [] = tt
decimals_no_newline (n ∷ ns) = (decimal_no_newline n, decimals_no_newline ns)

pub report_front_no_newline : (c : Counts) → newlines (report_front c) ≡ 0
unfolding report_front
report_front_no_newline c = fields_no_newline (decimal c.scored) (map decimal (others c (total c))) (decimal_no_newline c.scored) (decimals_no_newline (others c (total c)))

-- two bytes to four for each number, of which one parts it from the next or ends the line
decimals_width_bounds : (ns : List ℕ) → All Small ns → (1 + 2 * length ns ≤ rest_width (map decimal ns)) × (rest_width (map decimal ns) ≤ 1 + 4 * length ns)
unfolding rest_width
decimals_width_bounds [] h = (omega arith, omega arith)
decimals_width_bounds (n ∷ ns) h =
    let m : n ≤ 656 = h.0 in
    let d = decimal_width_fits n (omega arith) in
    let e = decimal_length n in
    let ih = decimals_width_bounds ns h.1 in
    (omega arith, omega arith)

pub report_length_bounds : (c : Counts) → total c ≤ 656 → (12 ≤ length (report_bytes c)) × (length (report_bytes c) ≤ 24)
unfolding report_bytes rest_width
report_length_bounds c h =
    let ns = five c ++ total c ∷ [] in
    let w = decimals_width_bounds ns (counts_small_if_total_is c h) in
    let l = length-append (decimal c.scored) (rest_of_line (map decimal (others c (total c)))) in
    let r = rest_of_line_length (map decimal (others c (total c))) in
    (omega arith, omega arith)

-- ---- one report has one reading
-- equal bytes up to a comma are those of equal numbers, with the same behind
decimal_injective : (n m : ℕ) → n ≤ 656 → m ≤ 656 → (s t : List ℕ) → decimal n ++ 44 ∷ s ≡ decimal m ++ 44 ∷ t → (n ≡ m) × (s ≡ t)
decimal_injective n m h k s t e =
    let w : decimal_width n ≡ decimal_width m = sym (decimal_width_read_back n (omega arith) s) ∙ ap decimal_width_at e ∙ decimal_width_read_back m (omega arith) t in
    let p : n ≡ m = sym (decimal_read_back n (omega arith) s) ∙ ap₂ (number_at 10) w e ∙ decimal_read_back m (omega arith) t in
    (p, sym (drop_past_comma (decimal n) s (decimal_width n) (decimal_length n)) ∙ ap₂ (λ (v : ℕ) (r : List ℕ). drop (v + 1) r) w e ∙ drop_past_comma (decimal m) t (decimal_width m) (decimal_length m))

pub report_injective : (c d : Counts) → total c ≤ 656 → total d ≤ 656 → report_bytes c ≡ report_bytes d → c ≡ d
unfolding report_bytes rest_of_line
report_injective c d h k e =
    let a = counts_small_if_total_is c h in
    let b = counts_small_if_total_is d k in
    let p₀ = decimal_injective c.scored d.scored a.0 b.0 _ _ e in
    let p₁ = decimal_injective c.host_failed d.host_failed a.1.0 b.1.0 _ _ p₀.1 in
    let p₂ = decimal_injective c.bad_camera d.bad_camera a.1.1.0 b.1.1.0 _ _ p₁.1 in
    let p₃ = decimal_injective c.no_mean d.no_mean a.1.1.1.0 b.1.1.1.0 _ _ p₂.1 in
    let p₄ = decimal_injective c.no_number d.no_number a.1.1.1.1.0 b.1.1.1.1.0 _ _ p₃.1 in
    rw (p₀.0, p₁.0, p₂.0, p₃.0, p₄.0)
