use Rattle.encoded_pointers.proofs.cursor.Cursor.+uleb_left.Given as goal

abbrev pub decreases-uleb_left : goal.decreases-uleb_left
decreases-uleb_left l = l.left
