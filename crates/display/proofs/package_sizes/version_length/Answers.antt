use Rattle.std.specs.Prelude.{refl}
use Rattle.display.specs.PackageLengths.{version_length_is}
use Rattle.display.proofs.package_sizes.version_length.Goals as goal

pub returns : goal.returns
returns c = version_length_is _ _ c.requires _ _ _ c.version_text.ensures refl
