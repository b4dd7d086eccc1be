use Rattle.encoded_pointers.proofs.cursor.Cursor.+sleb_left.Given as goal

abbrev pub decreases-sleb_left : goal.decreases-sleb_left
decreases-sleb_left l = l.left
