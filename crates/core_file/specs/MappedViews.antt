-- What a part of a file is as it is read, and what the iterator over parts has left.
use Rattle.std.specs.Prelude.{List}
use Rattle.core_file.specs.declared.mapped.MappedPart.{MappedPart}
use Rattle.core_file.specs.declared.mapped.MappedParts.{MappedParts}
use Rattle.core_file.specs.MappedParts.{PartValue, parts_from}

abbrev pub part_of : MappedPart → PartValue
part_of p = record { start = p.start; stop = p.end; offset = p.offset; path = p.path.now }

abbrev pub parts_left : MappedParts → List PartValue
parts_left parts = parts_from parts.page_size parts.entries parts.paths.now
