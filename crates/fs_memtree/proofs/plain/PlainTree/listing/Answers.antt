use Rattle.fs_memtree.proofs.plain.PlainTree.listing.Goals as goal

pub write_listing-requires : goal.write_listing-requires
write_listing-requires g c = c.self.invariant.kept
