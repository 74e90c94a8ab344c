-- `words::store` meets its contract.
use Rattle.std.proofs.Common.{arith}
use Rattle.rack.specs.laws.SoundLaws.{sound_of_lem}
use Rattle.words.proofs.store.Goals as goal

pub put_head-requires : goal.put_head-requires
put_head-requires c = omega (arith, (sound_of_lem _ c.requires).entries)

pub put_parties-requires : goal.put_parties-requires
put_parties-requires c = (sound_of_lem _ c.requires).settings.clients

pub put_pairs-requires : goal.put_pairs-requires
put_pairs-requires c = (sound_of_lem _ c.requires).settings.replicas

pub put_lines-requires : goal.put_lines-requires
put_lines-requires c = omega (arith, (sound_of_lem _ c.requires).entries)
