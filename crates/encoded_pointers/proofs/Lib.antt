mod Leb
