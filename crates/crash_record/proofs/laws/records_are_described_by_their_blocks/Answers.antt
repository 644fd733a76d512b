use Rattle.crash_record.proofs.Parts.{described_commit, no_commit, no_part, bad_part, parts_more, enough, described_is}
use Rattle.crash_record.proofs.laws.records_are_described_by_their_blocks.Goals as goal

pub returns : goal.returns
returns c = λ img h number place.
    let keep = c.journal_blocks_keep_to_their_bounds.ensures.commits in
    record {
      commit_is = described_commit img h number place;
      no_commit = no_commit img h number place;
      no_part = no_part img h number place;
      bad_part = bad_part img h number place;
      part_more = parts_more img h number place keep;
      all_parts = enough img h number place keep;
      one_record = described_is img h number place keep;
    }
