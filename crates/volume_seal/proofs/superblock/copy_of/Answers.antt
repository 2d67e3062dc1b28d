use Rattle.volume_seal.proofs.superblock.copy_of.Goals as goal

pub returns-clause-bytes : goal.returns-clause-bytes
returns-clause-bytes c = c.fits-fsid
