use Rattle.fs_commands.specs.Opened.{blocks_in}
use Rattle.engine_store.specs.StoreOf.{state_of}
use Rattle.cmd_image.proofs.Steps.{listed_back}
use Rattle.cmd_image.proofs.show.list_shown.Goals as goal

pub returns-clause-shows : goal.returns-clause-shows
returns-clause-shows g c = λ first is session mark.
    listed_back (record { newest = c.an_image_holds_one_map.ensures.newest; maps = c.an_image_holds_one_map.ensures.maps; alike = c.images_alike_below_n_stand_for_the_same.ensures }) g.D.Disk.state g.D.Disk.tells first (state_of g.D.Disk.state (blocks_in c.args.fs))
    (blocks_in c.write_listing-answer.new.fs) c.into_blocks.result c.disk_back.result c.args.mark c.args.marks.items c.push_reserved.new.self.items (g.K.Sink.taken c.args.out.now) (g.K.Sink.taken c.write_listing-answer.new.out) c.write_listing-answer.result c.into_blocks.ensures
    c.disk_back.ensures.disk c.requires.empty c.push_reserved.ensures.items is c.write_listing-answer.ensures.looks c.disk_back.ensures.size c.write_listing-answer.ensures.says mark session c.write_listing-answer.ensures.all c.write_listing-answer.ensures.front
