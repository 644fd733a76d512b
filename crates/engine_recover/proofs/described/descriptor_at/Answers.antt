use Rattle.engine_recover.proofs.described.descriptor_at.Goals as goal

pub returns-clause-found : goal.returns-clause-found
returns-clause-found g c = λ img gives. c.descriptor_in.ensures.found img c.args.place (c.in_ok-read_ring.ensures.gives img gives)

pub returns-clause-missing : goal.returns-clause-missing
returns-clause-missing g c = λ img gives. c.descriptor_in.ensures.missing img c.args.place (c.in_ok-read_ring.ensures.gives img gives)
