-- `seeds::grids::initial_seed_grid` meets its contract: what the three lists leave, one after the other. Assumes nothing.
use Rattle.std.proofs.Common.{sym, ap, ◌∙◌, ◌≡◌, List, ℕ, Float, [], ◌++◌, map, ◌+◌, ◌*◌, ◌/◌, ◌≤◌, mul-le-mul, arith, length, rules}
use Rattle.seeds.specs.Layout.{six, seed_at, seeds_of, all_seeds, tilts_of, read_from, Leaves}
use Rattle.seeds.specs.declared.CandidateSeed.{CandidateSeed}
use Rattle.seeds.specs.LayoutLaws.{seeds_layout, tilts_layout, read_length}
use Rattle.seeds.specs.Merge.{keep, merged, merged_into}
use Rattle.seeds.proofs.MergeLaws.{merged_into_length_le_sum, merged_fresh}
use Rattle.seeds.specs.Rules.{near, tilt_near, in_bound, pairs, seed_with, seed_grid, initial_list}
use Rattle.seeds.proofs.RulesLaws.{seed_grid_length_le}
use Rattle.seeds.proofs.Steps.{MergeUnderWay, left_records_read_back, merge_under_way_after_more}
use Rattle.seeds.proofs.grids.initial_seed_grid.Goals as goal

pub seed_grid-number-requires : goal.seed_grid-number-requires
seed_grid-number-requires c = omega (arith, mul-le-mul c.requires.x_seeds_len_bound.0 c.requires.x_seeds_len_bound.1)

-- a decomposition's seeds are offered to a list with none yet
merged_into_empty_list : (ds : List CandidateSeed) (l m : List Float) (k n : ℕ) → k ≡ 0 → Leaves six 6 (merged_into near (seeds_of k l) ds) l m n
    → Leaves six 6 (merged near ds) l m n
unfolding read_from
merged_into_empty_list ds l m k n e h = rw e at h

pub push_typed-requires-clause-room : goal.push_typed-requires-clause-room
push_typed-requires-clause-room c =
    let a = c.args in
    let n = length a.x_seeds.now * length a.y_seeds.now in
    let d = a.decomposition.now in
    let list = c.push_solved.new.list in
    let few : c.seed_grid-number.result ≤ n = rw c.seed_grid-number.ensures.count_is (seed_grid_length_le a.x_seeds.now a.y_seeds.now a.max_abs_tilt) in
    let left =
    merged_into_empty_list (all_seeds d) c.new-list.result.numbers.now list.numbers.now c.new-list.result.count list.count c.new-list.ensures.none_kept c.push_solved.ensures.pushed
    in
    let before : list.count ≤ length d / 6 =
    rw left.count_is (omega (arith, merged_into_length_le_sum near [] (all_seeds d), read_length (λ m. seed_at m 0) 6 (length d / 6) d))
    in
    let small : n ≤ 16 * 16 = mul-le-mul c.requires.x_seeds_len_bound.0 c.requires.x_seeds_len_bound.1 in
    let room : 6 * (length d / 6 + n) ≤ length a.seeds.now = c.requires.y_seeds_in_bounds in
    let same : length list.numbers.now ≡ length a.seeds.now = c.push_solved.ensures.same_length ∙ ap length c.new-list.ensures.same_numbers in
    (search rules, omega arith)

-- the grid was merged by tilt
pub push_typed-requires-clause-apart : goal.push_typed-requires-clause-apart
unfolding seed_grid
push_typed-requires-clause-apart c earlier t later e =
    let a = c.args in
    let grid = seed_grid a.x_seeds.now a.y_seeds.now a.max_abs_tilt in
    let n = c.seed_grid-number.result in
    let read : tilts_of n c.seed_grid-number.new.grid ≡ grid = left_records_read_back tilts_layout grid _ c.seed_grid-number.new.grid n c.seed_grid-number.ensures in
    merged_fresh tilt_near (keep (in_bound a.max_abs_tilt) (pairs a.x_seeds.now a.y_seeds.now)) earlier t later (sym read ∙ e)

pub returns : goal.returns
unfolding initial_list
returns c =
    let a = c.args in
    let ds = all_seeds a.decomposition.now in
    let grid = seed_grid a.x_seeds.now a.y_seeds.now a.max_abs_tilt in
    let l = c.new-list.result.numbers.now in
    let m = c.push_solved.new.list.numbers.now in
    let n = c.push_solved.new.list.count in
    let number = c.seed_grid-number.result in
    let g' = c.seed_grid-number.new.grid in
    let k = seed_with a.base_k in
    let e : tilts_of number g' ≡ grid = left_records_read_back tilts_layout grid _ g' number c.seed_grid-number.ensures in
    let solved = merged_into_empty_list ds l m c.new-list.result.count n c.new-list.ensures.none_kept c.push_solved.ensures.pushed in
    let start : MergeUnderWay six 6 near [] ds l m n n = record { leaves = solved; few = search rules; same = c.push_solved.ensures.same_length } in
    let whole = merge_under_way_after_more seeds_layout near [] ds (map k (tilts_of number g')) (ds ++ map k grid)
    l m c.push_typed.new.list.numbers.now n c.push_typed.new.list.count n (n + length (map k (tilts_of number g')))
    start c.push_typed.ensures.pushed c.push_typed.ensures.same_length (search rules) (rw e) in
    let done = rw c.new-list.ensures.same_numbers at whole.leaves in
    let name = c.push_typed.ensures.same_reference ∙ c.push_solved.ensures.same_reference ∙ c.new-list.ensures.same_reference in
    search rules
