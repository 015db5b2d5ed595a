-- Some fields, and some reports, as they are written, by computation. Assumes nothing.
use Rattle.std.specs.Prelude.{◌≡◌, refl, [], ◌∷◌, map, length, replicate, Ok, Err}
use Rattle.std.specs.Float.{nan, binary64}
use Rattle.std.specs.Float.Ieee.{of_bits, to_bits, is_nan}
use Rattle.float.specs.Float.{bits_of}
use Rattle.journal.specs.declared.Counts.{Counts}
use Rattle.score.specs.declared.outcome.SkipReason.TheVariants.{HostFailed, BadCamera, NoMean, NoNumber}
use Rattle.common.specs.declared.Refusal.TheVariants.{NotWritable}
use Rattle.journal.specs.Line.{digit_byte, digits, decimal_width, decimal, real, reason_letter, rest_of_line}
use Rattle.journal.specs.Report.{total, report_bytes, refuses_report, report_reply, report_into}
use Rattle.journal.specs.Theorem.{counts_of, FieldsWritten}

-- "0", "10", "655"
numbers : map decimal (0 ∷ 10 ∷ 655 ∷ []) ≡ (48 ∷ []) ∷ (49 ∷ 48 ∷ []) ∷ (54 ∷ 53 ∷ 53 ∷ []) ∷ []
unfolding decimal decimal_width digits digit_byte
numbers = refl

-- 1.0 is 3ff0000000000000
one : real (of_bits binary64 0x3ff0_0000_0000_0000) ≡ 51 ∷ 102 ∷ 102 ∷ replicate 13 48
unfolding real bits_of digits digit_byte of_bits to_bits is_nan
one = refl

-- NaN is 7ff8000000000000
not_a_number : real nan ≡ 55 ∷ 102 ∷ 102 ∷ 56 ∷ replicate 12 48
unfolding real bits_of digits digit_byte is_nan
not_a_number = refl

-- H, C, E, N
letters : map reason_letter (HostFailed ∷ BadCamera ∷ NoMean ∷ NoNumber ∷ []) ≡ 72 ∷ 67 ∷ 69 ∷ 78 ∷ []
unfolding reason_letter
letters = refl

-- ---- reports
-- "0,0,0,0,0,0" and a newline: 12 bytes
nothing_yet : report_bytes (counts_of 0 0 0 0 0) ≡ 48 ∷ 44 ∷ 48 ∷ 44 ∷ 48 ∷ 44 ∷ 48 ∷ 44 ∷ 48 ∷ 44 ∷ 48 ∷ 10 ∷ []
unfolding report_bytes total rest_of_line decimal decimal_width digits digit_byte
nothing_yet = refl

-- "7,1,20,300,0,328" and a newline
in_order : report_bytes (counts_of 7 1 20 300 0) ≡ 55 ∷ 44 ∷ 49 ∷ 44 ∷ 50 ∷ 48 ∷ 44 ∷ 51 ∷ 48 ∷ 48 ∷ 44 ∷ 48 ∷ 44 ∷ 51 ∷ 50 ∷ 56 ∷ 10 ∷ []
unfolding report_bytes total rest_of_line decimal decimal_width digits digit_byte
in_order = refl

-- 100,100,100,100,100,500 has 24 bytes, the most that a report has
longest : length (report_bytes (counts_of 100 100 100 100 100)) ≡ 24
unfolding report_bytes total rest_of_line decimal decimal_width digits digit_byte
longest = refl

-- a total of 656 is written, 657 isn't
totals : map (λ (c : Counts). report_reply c (replicate 24 0)) (counts_of 656 0 0 0 0 ∷ counts_of 600 20 20 10 6 ∷ counts_of 656 1 0 0 0 ∷ counts_of 0 0 0 0 657 ∷ []) ≡ Ok 16 ∷ Ok 19 ∷ Err NotWritable ∷ Err NotWritable ∷ []
unfolding report_reply refuses_report report_bytes total rest_of_line decimal decimal_width digits digit_byte
totals = refl

-- nor is 2^64, which doesn't wrap round to 0
no_wrap : report_reply (counts_of 18446744073709551615 0 0 0 1) (replicate 24 0) ≡ Err NotWritable
unfolding report_reply refuses_report total
no_wrap = refl

-- a buffer of 23 bytes is refused and left as it was, though this report has 12
short_buffer_refused_and_kept : (report_reply (counts_of 0 0 0 0 0) (replicate 23 7) ≡ Err NotWritable) × (report_into (counts_of 0 0 0 0 0) (replicate 23 7) ≡ replicate 23 7)
unfolding report_reply report_into refuses_report total
short_buffer_refused_and_kept = (refl, refl)

pub fields_written : FieldsWritten
fields_written = record {
  numbers = numbers;
  one = one;
  not_a_number = not_a_number;
  letters = letters;
  nothing_yet = nothing_yet;
  in_order = in_order;
  longest = longest;
  totals = totals;
  no_wrap = no_wrap;
  small_buffer = short_buffer_refused_and_kept;
}
