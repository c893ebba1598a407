use Rattle.std.specs.Prelude.{refl}
use Rattle.display.specs.PackageLengths.{name_length_is}
use Rattle.display.proofs.package_sizes.name_length.Goals as goal

pub returns : goal.returns
returns c = name_length_is _ _ c.requires _ _ _ c.name_text.ensures refl
