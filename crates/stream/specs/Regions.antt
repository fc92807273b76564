-- The region of an element.
use Rattle.tree.specs.declared.element.Element.{Element}
use Rattle.stream.specs.declared.region.Region.{Region}

abbrev pub region_of : Element → Region
region_of e = record { start = e.start; «end» = e.«end»; level = e.level }
