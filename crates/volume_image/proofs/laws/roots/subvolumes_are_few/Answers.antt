use Rattle.volume_image.proofs.RootItems.{few_subvolumes}
use Rattle.volume_image.proofs.laws.roots.subvolumes_are_few.Goals as goal

pub returns : goal.returns
returns c = record { least = λ image volume stands. (few_subvolumes image volume stands).0; most = λ image volume stands. (few_subvolumes image volume stands).1 }
