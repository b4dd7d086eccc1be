-- A window as a region of memory. No public clause says more of it.
use Rattle.memory_image.specs.Image.{Span}
use Rattle.core_parts.specs.declared.windows.Window.{Window}

abbrev pub window_span : Window → Span
window_span w = record { start = w.address; bytes = w.bytes.items }
