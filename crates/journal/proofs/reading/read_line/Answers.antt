-- `journal::reading::read_line` meets its contract: what the writer made of the line that the bytes would be says which answer is right.
-- Assumes nothing.
use Rattle.journal.specs.Reading.{unchecked_line, begins}
use Rattle.std.proofs.Common.{arith, ℕ, List, length, drop, take, replicate, ◌≡◌, ap, sym, ◌∙◌, Some}
use lib.ListN.{length-replicate}
use Rattle.common.specs.Slices.{slice_to_end_is_drop}
use Rattle.journal.proofs.Found.{WroteLine, read_line_is_end, wrote_line_if_ok, front_has_n_bytes, front_within_buffer, not_writable_if_refused, not_of_form_without_outcome, got_if_bytes_begin_so, not_of_form_if_bytes_differ, not_of_form_if_not_writable, place_behind_line_in_journal}
use Rattle.journal.proofs.reading.read_line.Goals.{In-Some, In-Ok, After-begins_with}
use Rattle.journal.proofs.reading.read_line.Goals as goal

abbrev zeros : List ℕ
zeros = replicate 256 0

zeros_length : length zeros ≡ 256
zeros_length = length-replicate {A = ℕ} 256 0

pub returns-then-bytes-at : goal.returns-then-bytes-at
returns-then-bytes-at c = let a = c.args in read_line_is_end a.bytes.now a.at c.if-bytes-at.true

pub returns-in_default : goal.returns-in_default
returns-in_default c =
    let a = c.args in
    let none = sym c.in_default.is ∙ c.unchecked_line.ensures ∙ ap unchecked_line (slice_to_end_is_drop a.bytes.now a.at) in
    c.not_a_line.ensures ∙ not_of_form_without_outcome a.bytes.now a.at c.if-bytes-at.false none

-- the line that the bytes would be
unchecked_line_of_bytes : (c : In-Some) → Some c.in-Some.line ≡ unchecked_line (drop c.args.at c.args.bytes.now)
unchecked_line_of_bytes c = sym c.in-Some.is ∙ c.unchecked_line.ensures ∙ ap unchecked_line (slice_to_end_is_drop c.args.bytes.now c.args.at)

-- the writer's bytes of it
writer_wrote_line : (c : In-Ok) → WroteLine c.in-Some.line zeros c.write_line.new.out c.in-Ok.n zeros_length
writer_wrote_line c = wrote_line_if_ok _ _ _ _ _ c.write_line.result c.write_line.ensures.reply c.write_line.ensures.written c.in-Ok.is

begins_with_is_begins : (c : After-begins_with) → c.begins_with.result ≡ begins (take c.in-Ok.n c.write_line.new.out) (drop c.args.at c.args.bytes.now)
begins_with_is_begins c = c.begins_with.ensures ∙ ap (begins _) (slice_to_end_is_drop c.args.bytes.now c.args.at)

pub returns-in_default-write_line : goal.returns-in_default-write_line
returns-in_default-write_line c =
    let a = c.args in
    let w = goal.at.returns-in_default-write_line c in
    let l = c.in-Some.line in
    let r = not_writable_if_refused l _ _ zeros_length c.write_line.result c.write_line.ensures.reply c.in_default-write_line.is in
    c.not_a_line-in_default-write_line.ensures ∙ not_of_form_if_not_writable a.bytes.now a.at l c.if-bytes-at.false (unchecked_line_of_bytes w.In-Some) r

pub slice_bounds-buffer-end : goal.slice_bounds-buffer-end
slice_bounds-buffer-end c = front_within_buffer _ _ _ _ _ (writer_wrote_line (goal.at.slice_bounds-buffer-end c).In-Ok)

pub slice_bounds-begins_with-end : goal.slice_bounds-begins_with-end
slice_bounds-begins_with-end c = front_has_n_bytes _ _ _ _ _ (writer_wrote_line (goal.at.slice_bounds-begins_with-end c).In-Ok)

pub overflow_add-result : goal.overflow_add-result
overflow_add-result c =
    let a = c.args in
    let w = goal.at.overflow_add-result c in
    omega (arith, place_behind_line_in_journal a.bytes.now a.at c.in-Some.line c.if-bytes-at.false (unchecked_line_of_bytes w.In-Some) _ _ _ _ (writer_wrote_line w.In-Ok) c.begins_with.result (begins_with_is_begins w.After-begins_with) c.if-begins_with.true)

pub returns-then-begins_with : goal.returns-then-begins_with
returns-then-begins_with c =
    let a = c.args in
    let w = goal.at.returns-then-begins_with c in
    got_if_bytes_begin_so a.bytes.now a.at c.in-Some.line c.if-bytes-at.false (unchecked_line_of_bytes w.In-Some) _ _ _ _ (writer_wrote_line w.In-Ok) c.begins_with.result (begins_with_is_begins w.After-begins_with) c.if-begins_with.true

pub returns : goal.returns
returns c =
    let a = c.args in
    let w = goal.at.returns c in
    c.not_a_line-2.ensures ∙ not_of_form_if_bytes_differ a.bytes.now a.at c.in-Some.line c.if-bytes-at.false (unchecked_line_of_bytes w.In-Some) _ _ _ _ (writer_wrote_line w.In-Ok) c.begins_with.result (begins_with_is_begins w.After-begins_with) c.if-begins_with.false
